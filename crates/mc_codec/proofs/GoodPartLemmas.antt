-- The parts of commands that are good.
use Rattle.std.proofs.Common.{◌≡◌, ℕ, ℤ, ◌<◌, ◌≤◌, ◌^◌, Bool, true, List, length, nat_lt, Option, Some, refl, arith}
use Rattle.std.proofs.lemmas.Bool.{and_parts, and_from, lt-ltb, le-leb}
use Rattle.std.proofs.lemmas.Bool.Decides.{nat_tests}
use Rattle.mc_request.specs.declared.meta.Counting.{Counting}
use Rattle.mc_request.specs.declared.meta.MetaGet.{MetaGet}
use Rattle.mc_request.specs.declared.parts.StoreMode.{StoreMode}
use Rattle.mc_request.specs.declared.parts.Update.{Update}
use Rattle.mc_request.specs.declared.parts.Update.TheVariants.{Store, Touch, Delete, Count, FlushAll}
use Rattle.mc_request.specs.Parts.{key_in}
use Rattle.mc_request.specs.WellFormed.{is_good_block, is_good_counting, is_good_creation, is_good_get, is_good_update, is_i64, is_u64, is_where_some}

-- the parts of a storage command, whose key passes a test
pub record AreStoreParts (test : List ℕ → Bool) (compare : Option ℕ) (key : List ℕ) (flags : ℕ) (exptime : ℤ) (block : List ℕ) : Type 0 where
  pub valid : test key ≡ true
  pub number : is_where_some is_u64 compare ≡ true
  pub flags_fit : flags < 2 ^ 32
  pub time : is_i64 exptime ≡ true
  pub size : length block ≤ 1048576

pub store_parts : (test : List ℕ → Bool) (mode : StoreMode) (compare : Option ℕ) (key : List ℕ) (flags : ℕ) (exptime : ℤ) (block : List ℕ)
    → is_good_update test is_good_block (Store mode compare key flags exptime block) ≡ true → AreStoreParts test compare key flags exptime block
store_parts test mode compare key flags exptime block h = grind (arith, nat_lt, and_parts, nat_tests)

-- the parts of a count
pub record AreCountParts (counting : Counting) : Type 0 where
  pub delta : is_u64 counting.delta ≡ true
  pub compare : is_where_some is_u64 counting.compare ≡ true
  pub create : is_where_some is_good_creation counting.create ≡ true
  pub exptime : is_where_some is_i64 counting.exptime ≡ true

pub count_parts : (counting : Counting) → is_good_counting counting ≡ true → AreCountParts counting
count_parts counting h = grind (arith, and_parts)

-- the parts of what `mg` does
pub record AreGetParts (get : MetaGet) : Type 0 where
  pub exptime : is_where_some is_i64 get.exptime ≡ true
  pub create : is_where_some is_i64 get.create ≡ true
  pub recache : is_where_some is_u64 get.recache ≡ true

pub get_parts : (get : MetaGet) → is_good_get get ≡ true → AreGetParts get
get_parts get h = grind (arith, and_parts)

-- an update is good by another test if its key passes that one too
pub another_test : (p q : List ℕ → Bool) (update : Update (List ℕ) (List ℕ)) → ((key : List ℕ) → key_in update ≡ Some key → p key ≡ true → q key ≡ true)
    → is_good_update p is_good_block update ≡ true → is_good_update q is_good_block update ≡ true
another_test p q (Store mode compare key flags exptime block) passes h = grind (arith, lt-ltb, le-leb, store_parts)
another_test p q (Touch key exptime) passes h =
    let both = and_parts (p key) (is_i64 exptime) h in and_from (q key) (is_i64 exptime) (passes key refl both.0) both.1
another_test p q (Delete key compare invalidate) passes h =
    let both = and_parts (p key) (is_where_some is_u64 compare) h in and_from (q key) (is_where_some is_u64 compare) (passes key refl both.0) both.1
another_test p q (Count key counting) passes h =
    let both = and_parts (p key) (is_good_counting counting) h in and_from (q key) (is_good_counting counting) (passes key refl both.0) both.1
another_test p q (FlushAll delay) passes h = h
