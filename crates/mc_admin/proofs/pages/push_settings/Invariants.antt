use Rattle.std.proofs.Common.{◌≡◌, ◌++◌, take}
use Rattle.std.specs.List.{flat_map}
use Rattle.mc_admin.specs.Pages.{setting_line}
use Rattle.mc_admin.proofs.pages.push_settings.Given as goal

abbrev pub invariant-loop-setting : goal.invariant-loop-setting
invariant-loop-setting l = l.out.items ≡ l.fn.out.items ++ flat_map setting_line (take l.setting-index l.settings)
