-- A course holds after every list of events, and of servers that join, are learned by proxies and restart, and so gives account.
use Rattle.std.proofs.Common.{◌≡◌, ◌<◌, ℕ, List, [], ◌∷◌, length, inl, inr, sym, subst, arith}
use Rattle.mc_ring.specs.Rings.{IsRing, RingState}
use Rattle.mc_route.specs.declared.losses.Losses.{Losses}
use Rattle.mc_cache.specs.CacheState.{CacheState, IsWithinBounds, opening_cache}
use Rattle.mc_cache_laws.specs.GoodCaches.{IsGoodCache}
use Rattle.mc_cache_laws.proofs.GoodStepLemmas.{opening_is_good}
use Rattle.mc_world.specs.Accounts.{Account}
use Rattle.mc_world.specs.CourseHolds.{CourseHolds}
use Rattle.mc_world.specs.Homes.{home_in}
use Rattle.mc_world.specs.Runs.{Call, Calls, Join, Learn, Restart, Step}
use Rattle.mc_world.specs.WorldState.{home_of, proxy_at}
use Rattle.mc_world.specs.Worlds.{CourseState, history_of, homes_from, put_out_of, taken_by, text_of, world_opened}
use Rattle.mc_world.proofs.Course.DoneLemmas.{course_done}
use Rattle.mc_world.proofs.Course.HomeLemmas.{calls_homes}
use Rattle.mc_world.proofs.Course.JoinLemmas.{course_joins}
use Rattle.mc_world.proofs.Course.LearnLemmas.{course_learns}
use Rattle.mc_world.proofs.Log.AccountLemmas.{log_accounts}
use Rattle.mc_world.proofs.Log.PolicyLemmas.{called_losses}
use Rattle.mc_world.proofs.Course.RestartLemmas.{course_restarts}
use Rattle.mc_world.proofs.Course.WorldOpeningLemmas.{course_opens, opening_losses}

-- a course that holds gives account, if its proxies have one choice for lost commands
pub course_accounts : (losses : Losses) (ring : RingState) (opening : CacheState) (c : CourseState) → CourseHolds ring opening c
    → ((proxy : ℕ) → proxy < length c.pool.proxies → (proxy_at c.pool proxy).losses ≡ losses)
    → Account (home_of c.pool) losses ring opening (text_of c) (put_out_of c) (history_of c) c.log
course_accounts losses ring opening c h chosen =
    (h.order, log_accounts losses ring opening (text_of c) (taken_by c) h.order h.lanes (put_out_of c) c.log c.pool h.pool h.log chosen h.nothing_before h.lives)

-- a course holds after every list of calls
pub course_called : (ring : RingState) (opening : CacheState) (calls : List Call) (old new : CourseState) → IsGoodCache opening → CourseHolds ring opening old
    → Calls opening calls old new → CourseHolds ring opening new
course_called ring opening [] old new good h run = subst (λ (c : CourseState). CourseHolds ring opening c) (sym run) h
course_called ring opening (Step event ∷ calls) old new good h run =
    course_called ring opening calls run.0 new good
    (elim run.1 [
      | inl done ↦ course_done ring opening event old run.0 h done
      | inr same ↦ subst (λ (c : CourseState). CourseHolds ring opening c) (sym same) h
    ]) run.2
course_called ring opening (Join proxy address ∷ calls) old new good h run =
    course_called ring opening calls run.0 new good
    (elim run.1 [
      | inl joined ↦ course_joins ring opening proxy address old run.0 good h joined
      | inr same ↦ subst (λ (c : CourseState). CourseHolds ring opening c) (sym same) h
    ]) run.2
course_called ring opening (Learn proxy address ∷ calls) old new good h run =
    course_called ring opening calls run.0 new good
    (elim run.1 [
      | inl learned ↦ course_learns ring opening proxy address old run.0 h learned
      | inr same ↦ subst (λ (c : CourseState). CourseHolds ring opening c) (sym same) h
    ]) run.2
course_called ring opening (Restart place ∷ calls) old new good h run =
    course_called ring opening calls run.0 new good
    (elim run.1 [
      | inl restarted ↦ course_restarts ring opening place old run.0 good h restarted
      | inr same ↦ subst (λ (c : CourseState). CourseHolds ring opening c) (sym same) h
    ]) run.2

-- every list of calls leads to an account, in which each client has the proxy that its number gives
pub calls_account : (losses : Losses) (ring : RingState) (clients : List ℕ) (budget items : ℕ) (calls : List Call) (c : CourseState) → IsRing ring → IsWithinBounds budget items
    → Calls (opening_cache budget items 0) calls (world_opened losses ring clients budget items).course c
    → Account (home_in (homes_from 0 clients)) losses ring (opening_cache budget items 0) (text_of c) (put_out_of c) (history_of c) c.log
calls_account losses ring clients budget items calls c is_ring bounds run =
    subst (λ (homes : List ℕ). Account (home_in homes) losses ring (opening_cache budget items 0) (text_of c) (put_out_of c) (history_of c) c.log)
    (calls_homes (opening_cache budget items 0) calls (world_opened losses ring clients budget items).course c run)
    (course_accounts losses ring (opening_cache budget items 0) c
    (course_called ring (opening_cache budget items 0) calls (world_opened losses ring clients budget items).course c
    (opening_is_good budget items 0 bounds.some_items (omega arith))
    (course_opens losses ring clients budget items is_ring bounds.some_items) run)
    (called_losses losses (opening_cache budget items 0) calls (world_opened losses ring clients budget items).course c
    (opening_losses losses (opening_cache budget items 0) ring clients) run))
