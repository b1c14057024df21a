-- Each server stays in its life, and its history grows, after each event that happens.
use Rattle.std.proofs.Common.{◌≡◌, ◌∙◌, ⊎_elim, ℕ, inl, inr, List, [], ◌++◌, Some, slice_get, slice_set, sym, ap, subst, append-nil}
use Rattle.std.proofs.lemmas.Bool.Decides.{eqb_tells}
use Rattle.mc_history.specs.declared.entries.Entry.{Entry}
use Rattle.mc_world.specs.declared.events.Event.{Event}
use Rattle.mc_world.specs.declared.events.Event.TheVariants.{ClientBytes, ClientGone, ClientTakes, Emit, LinkBack, LinkLost, ProxyTurn, ReplyTurn, ServerSeesEnd, ServerTurn, ToProxy, ToServer}
use Rattle.mc_world.specs.Courses.{Happens}
use Rattle.mc_world.specs.WorldState.{PoolState, SiteState, begun_of, histories_of}
use Rattle.mc_world.proofs.Log.EntryLemmas.{begun_at, begun_other, begun_own, history_at, history_other, history_own}

-- sites that go on from others: each is in its life, and its history begins with the entries of the one
-- before
pub record GoOn (old new : List SiteState) : Type 0 where
  pub begun : (place : ℕ) → begun_of new place ≡ begun_of old place
  pub more : (place : ℕ) → (es : List Entry) × (histories_of new place ≡ histories_of old place ++ es)

-- the sites stay; and the site of one place is another
go_same : (old new : List SiteState) → new ≡ old → GoOn old new
go_same old new same = record {
  begun = λ place. ap (λ (ss : List SiteState). begun_of ss place) same;
  more = λ place. ([], ap (λ (ss : List SiteState). histories_of ss place) same ∙ sym (append-nil (histories_of old place)));
}

set_goes : (place : ℕ) (site now : SiteState) (sites : List SiteState) → slice_get sites place ≡ Some site → now.begun ≡ site.begun
    → (es : List Entry) → now.history ≡ site.history ++ es → GoOn sites (slice_set sites place now)
set_goes place site now sites at begun es history = record {
  begun = λ other. ⊎_elim
      (λ own. subst (λ (p : ℕ). begun_of (slice_set sites place now) p ≡ begun_of sites p) own.1
      (begun_own sites place site now at ∙ begun ∙ sym (begun_at sites place site at)))
      (λ differ. begun_other sites place now other differ.1)
      (eqb_tells place other);
  more = λ other. ⊎_elim
      (λ own. subst (λ (p : ℕ). (fs : List Entry) × (histories_of (slice_set sites place now) p ≡ histories_of sites p ++ fs)) own.1
      (es, history_own sites place site now at ∙ history ∙ ap (λ (fs : List Entry). fs ++ es) (sym (history_at sites place site at))))
      (λ differ. ([], history_other sites place now other differ.1 ∙ sym (append-nil (histories_of sites other))))
      (eqb_tells place other);
}

go_one : (place : ℕ) (site now : SiteState) (old new : List SiteState) → slice_get old place ≡ Some site → new ≡ slice_set old place now
    → now.begun ≡ site.begun → (es : List Entry) → now.history ≡ site.history ++ es → GoOn old new
go_one place site now old new at sites begun es history = subst (λ (ss : List SiteState). GoOn old ss) (sym sites) (set_goes place site now old at begun es history)

-- the history of a site stays
go_still : (place : ℕ) (site now : SiteState) (old new : List SiteState) → slice_get old place ≡ Some site → new ≡ slice_set old place now
    → now.begun ≡ site.begun → now.history ≡ site.history → GoOn old new
go_still place site now old new at sites begun history = go_one place site now old new at sites begun [] (history ∙ sym (append-nil site.history))

-- each event that happens
pub lives_go : (event : Event (List ℕ)) (old new : PoolState) → Happens event old new → GoOn old.sites new.sites
lives_go (ClientBytes client bytes) old new e = go_same old.sites new.sites e.1.sites
lives_go (ClientGone client) old new e = go_same old.sites new.sites e.1.sites
lives_go (ProxyTurn client) old new e = go_same old.sites new.sites e.sites
lives_go (ToServer proxy server generation count) old new e = elim e [
  | inl here ↦
      go_still server here.0.there.site here.0.there.now old.sites new.sites here.0.there.at here.0.there.sites
      (ap (λ (s : SiteState). s.begun) here.0.arrives.all_else) (ap (λ (s : SiteState). s.history) here.0.arrives.all_else)
  | inr late ↦
      go_still server late.1.there.site late.1.there.now old.sites new.sites late.1.there.at late.1.there.sites
      (ap (λ (s : SiteState). s.begun) late.1.arrives.all_else) (ap (λ (s : SiteState). s.history) late.1.arrives.all_else)
]
lives_go (ServerTurn proxy server generation moment) old new e = elim e.1 [
  | inl here ↦
      go_one server here.0.there.site here.0.there.now old.sites new.sites here.0.there.at here.0.there.sites
      (ap (λ (s : SiteState). s.begun) here.0.enters.all_else) _ here.0.enters.on.history
  | inr late ↦
      go_one server late.1.there.site late.1.there.now old.sites new.sites late.1.there.at late.1.there.sites
      (ap (λ (s : SiteState). s.begun) late.1.enters.all_else) _ late.1.enters.on.history
]
lives_go (ToProxy proxy server count) old new e =
    go_still server e.there.site e.there.now old.sites new.sites e.there.at e.there.sites
    (ap (λ (s : SiteState). s.begun) e.leaves) (ap (λ (s : SiteState). s.history) e.leaves)
lives_go (ReplyTurn proxy server) old new e =
    go_still server e.there.site e.there.now old.sites new.sites e.there.at e.there.sites
    (ap (λ (s : SiteState). s.begun) e.counts) (ap (λ (s : SiteState). s.history) e.counts)
lives_go (Emit client) old new e = go_same old.sites new.sites e.sites
lives_go (ClientTakes client count) old new e = go_same old.sites new.sites e.1.sites
lives_go (LinkLost proxy server) old new e =
    go_still server e.there.site e.there.now old.sites new.sites e.there.at e.there.sites
    (ap (λ (s : SiteState). s.begun) e.cut) (ap (λ (s : SiteState). s.history) e.cut)
lives_go (LinkBack proxy server) old new e =
    go_still server e.site e.now old.sites new.sites e.at e.sites
    (ap (λ (s : SiteState). s.begun) e.back.all_else) (ap (λ (s : SiteState). s.history) e.back.all_else)
lives_go (ServerSeesEnd proxy server generation) old new e =
    go_still server e.1.there.site e.1.there.now old.sites new.sites e.1.there.at e.1.there.sites
    (ap (λ (s : SiteState). s.begun) e.1.ends.all_else) (ap (λ (s : SiteState). s.history) e.1.ends.all_else)
