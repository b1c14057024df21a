-- The spelling of figures: as memcached's statistics, and as metrics of Prometheus.
use Rattle.std.specs.Prelude.{ℕ, List, [], ◌++◌, codes, if◌then◌else◌, Option, Some, None, decimal}
use Rattle.std.specs.List.{flat_map}
use Rattle.std.specs.Borrow.{Bor}
use Rattle.mc_admin.specs.Names.{stat_name, metric_name, labels_of, kind_of, help_of}
use Rattle.mc_admin.specs.declared.names.Name.{Name}
use Rattle.mc_admin.specs.declared.figures.Value.{Value}
use Rattle.mc_admin.specs.declared.figures.Value.TheVariants.{Number, Version, Word}
use Rattle.mc_admin.specs.declared.figures.Figure.{Figure}
use Rattle.mc_admin.specs.declared.figures.Setting.{Setting}

-- a value among statistics
abbrev pub value_text : Value → List ℕ
value_text (Number n) = decimal n
value_text Version = codes "1.6.0"
value_text (Word word) = word.now

-- a value among metrics, which are numbers: the version is in its label
-- source: memcached_exporter, memcached_version
abbrev pub number_text : Value → List ℕ
number_text (Number n) = decimal n
number_text _ = codes "1"

-- the text in front of the name of a figure of a proxy's server: server:<address>:
-- source: this project's own, as memcached's items:<class>:
abbrev pub server_prefix : Option (Bor (List ℕ)) → List ℕ
server_prefix None = []
server_prefix (Some server) = codes "server:" ++ server.now ++ codes ":"

-- a line of statistics
-- source: memcached's protocol.txt, "Statistics"
abbrev pub stat_line : List ℕ → List ℕ → List ℕ → List ℕ
stat_line prefix name value = codes "STAT " ++ prefix ++ name ++ codes " " ++ value ++ codes "\r\n"

-- the line of a figure
abbrev pub figure_line : Figure → List ℕ
figure_line f = stat_line (server_prefix f.server) (stat_name f.name) (value_text f.value)

-- the line of a setting
abbrev pub setting_line : Setting → List ℕ
setting_line s = stat_line [] s.name.now (value_text s.value)

-- the end of a list: source memcached's protocol.txt, "Statistics"
abbrev pub end_line : List ℕ
end_line = codes "END\r\n"

-- the answer to `stats`
abbrev pub stats_text : List Figure → List ℕ
stats_text figures = flat_map figure_line figures ++ end_line

-- the answer to `stats settings`
abbrev pub settings_text : List Setting → List ℕ
settings_text settings = flat_map setting_line settings ++ end_line

-- the lines about a metric in front of its first sample
-- source: Prometheus, "Exposition formats", text format 0.0.4
abbrev pub heading_of : Name → List ℕ
heading_of name =
    (codes "# HELP " ++ metric_name name ++ codes " " ++ help_of name)
    ++ (codes "\n# TYPE " ++ metric_name name ++ codes " " ++ kind_of name ++ codes "\n")

-- the labels of a figure: its server's address, if it is of one
abbrev pub labels_text : Name → Option (Bor (List ℕ)) → List ℕ
labels_text name None = labels_of name
labels_text name (Some server) = codes "{server=\"" ++ server.now ++ codes "\"}"

-- a sample: its metric, its labels and its number
-- source: the same
abbrev pub sample_line : Figure → List ℕ
sample_line f = metric_name f.name ++ labels_text f.name f.server ++ codes " " ++ number_text f.value ++ codes "\n"

-- the lines of a figure
abbrev pub metric_lines : Figure → List ℕ
metric_lines f = (if f.first then heading_of f.name else []) ++ sample_line f

-- the text of `/metrics`
abbrev pub metrics_text : List Figure → List ℕ
metrics_text figures = flat_map metric_lines figures
