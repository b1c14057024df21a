-- What holds of the way of one proxy, and of those of the others, holds of each.
use Rattle.std.proofs.Common.{◌≡◌, ◌≢◌, ◌∙◌, ⊎_elim, ℕ, ◌<◌, true, List, length, sym, ap, subst}
use Rattle.std.proofs.lemmas.Bool.Decides.{eqb_tells}
use Rattle.std.proofs.lemmas.List.{get_or-set_other, get_or-set_same}
use Rattle.std.specs.Prelude.{slice_index_or}
use Rattle.mc_link.specs.LinkState.{LinkState}
use Rattle.mc_account.specs.Holds.{changed}
use Rattle.mc_account.specs.Lanes.{Lane}
use Rattle.mc_account.proofs.HoldsLemmas.{changed-other, changed-own}
use Rattle.mc_world.specs.WorldState.{WayState, no_way, with_way}

pub each_one : (P : ℕ → Type 0) (proxy : ℕ) → P proxy → ((other : ℕ) → proxy ≢ other → P other) → (q : ℕ) → P q
each_one P proxy own others q = ⊎_elim (λ e. subst P e.1 own) (λ e. others q e.1) (eqb_tells proxy q)

-- after the link of one is another, and after its lane is another too
pub each_link : (P : ℕ → LinkState → Type 0) (proxy : ℕ) (link : LinkState) (links : ℕ → LinkState) → P proxy link → ((other : ℕ) → proxy ≢ other → P other (links other))
    → (q : ℕ) → P q (changed proxy link links q)
each_link P proxy link links own others =
    each_one (λ q. P q (changed proxy link links q)) proxy (subst (λ (k : LinkState). P proxy k) (sym (changed-own proxy link links)) own)
    (λ q differ. subst (λ (k : LinkState). P q k) (sym (changed-other proxy q link links differ)) (others q differ))

pub each_changed : (P : ℕ → Lane → LinkState → Type 0) (proxy : ℕ) (lane : Lane) (link : LinkState) (lanes : ℕ → Lane) (links : ℕ → LinkState)
    → P proxy lane link → ((other : ℕ) → proxy ≢ other → P other (lanes other) (links other)) → (q : ℕ) → P q (changed proxy lane lanes q) (changed proxy link links q)
each_changed P proxy lane link lanes links own others =
    each_link (λ q k. P q (changed proxy lane lanes q) k) proxy link links (subst (λ (l : Lane). P proxy l link) (sym (changed-own proxy lane lanes)) own)
    (λ q differ. subst (λ (l : Lane). P q l (links q)) (sym (changed-other proxy q lane lanes differ)) (others q differ))

-- a link that is up was up, if that of the proxy was, or is down now
pub was_up : (proxy : ℕ) (link : LinkState) (links : ℕ → LinkState) → (link.up ≡ true → (links proxy).up ≡ true) → (q : ℕ) → (changed proxy link links q).up ≡ true → (links q).up ≡ true
was_up proxy link links own = each_link (λ q k. k.up ≡ true → (links q).up ≡ true) proxy link links own (λ q differ up. up)

-- the ways after that of a proxy is another
pub way_own : (ways : List WayState) (proxy : ℕ) (way : WayState) → proxy < length ways → slice_index_or (with_way proxy way ways) proxy no_way ≡ way
way_own ways proxy way inside = get_or-set_same ways proxy way no_way inside

pub way_other : (ways : List WayState) (proxy other : ℕ) (way : WayState) → proxy ≢ other → slice_index_or (with_way proxy way ways) other no_way ≡ slice_index_or ways other no_way
way_other ways proxy other way differ = get_or-set_other ways proxy other way no_way (λ same. differ (sym same))

-- the connections of ways, if that of the proxy stays
pub connection_stays : (ways : List WayState) (proxy : ℕ) (way : WayState) → proxy < length ways → way.connection ≡ (slice_index_or ways proxy no_way).connection
    → (q : ℕ) → (slice_index_or (with_way proxy way ways) q no_way).connection ≡ (slice_index_or ways q no_way).connection
connection_stays ways proxy way inside same =
    each_one (λ q. (slice_index_or (with_way proxy way ways) q no_way).connection ≡ (slice_index_or ways q no_way).connection) proxy
    (ap (λ (w : WayState). w.connection) (way_own ways proxy way inside) ∙ same)
    (λ q differ. ap (λ (w : WayState). w.connection) (way_other ways proxy q way differ))
