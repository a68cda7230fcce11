-- The room that the program keeps in its buffers: its stage decides which it is, and its medium and cache are the first
-- bytes of the buffers.
use mathlib.Core.Path.{◌≡◌, sym, ap, ◌∙◌}
use mathlib.Core.List.{List, ◌++◌}
use Prim.Native.Nat.{ℕ, ◌≤◌, ◌<◌, min}
use native.Mathlib.Omega.{arith}
use lib.ListN.{length, take, drop}
use lib.Seq.{length-take-le, take_at}
use lib.Dec.{ltb}
use borrow.Author.Tests.{lt-ltb, le-ltb, ltb-true, ltb-false}
use Rattle.store.specs.declared.State.{State}
use Rattle.fields.proofs.Choose.{bool_case}
use Rattle.rooms.specs.declared.parts.Standing.{Standing}
use Rattle.rooms.specs.Room.{gone, shut, ready, blocks_in, pages_in, medium_in, cache_in, stage_in}
use Rattle.rooms.specs.Parts.{stage_of, medium_part, cache_part, room_of}

-- the stages
pub stage_case : {P : Type 0} (t : Standing) → (t.stage < 2 → P) → (2 ≤ t.stage → t.stage < 3 → P)
    → (3 ≤ t.stage → P) → P
stage_case t a b d =
    bool_case (ltb t.stage 2) (λ e. a (ltb-true _ _ e))
    (λ e. bool_case (ltb t.stage 3) (λ f. b (ltb-false _ _ e) (ltb-true _ _ f)) (λ f. d (ltb-false _ _ f)))

pub stage_most : (t : Standing) → stage_of t ≤ 3
unfolding stage_of
stage_most t =
    stage_case t (λ h. simp (lt-ltb _ _ h) (omega arith)) (λ h g. simp (le-ltb _ _ h, lt-ltb _ _ g) (omega arith))
    (λ h. let k : 2 ≤ t.stage = omega arith in simp (le-ltb _ _ k, le-ltb _ _ h) (omega arith))

pub stage_2 : (t : Standing) → 2 ≤ stage_of t → 2 ≤ t.stage
unfolding stage_of
stage_2 t h =
    stage_case t (λ g. let z : 2 ≤ 1 = simp (lt-ltb _ _ g) at h in omega arith) (λ g k. g) (λ g. omega arith)

pub stage_3 : (t : Standing) → 3 ≤ stage_of t → 3 ≤ t.stage
unfolding stage_of
stage_3 t h =
    stage_case t (λ g. let z : 3 ≤ 1 = simp (lt-ltb _ _ g) at h in omega arith)
    (λ g k. let z : 3 ≤ 2 = simp (le-ltb _ _ g, lt-ltb _ _ k) at h in omega arith) (λ g. g)

module _ (t : Standing) (m c : List ℕ) (s : State) where
  pub room_gone : t.stage < 2 → room_of t m c s ≡ gone
  unfolding room_of
  room_gone h = simp (lt-ltb _ _ h)

  pub room_shut : 2 ≤ t.stage → t.stage < 3 → room_of t m c s ≡ shut t.blocks t.pages (take (medium_part t) m)
  unfolding room_of medium_part
  room_shut h g = simp (le-ltb _ _ h, lt-ltb _ _ g)

  pub room_ready : 3 ≤ t.stage → room_of t m c s ≡ ready t.blocks t.pages (take (medium_part t) m)
      (take (cache_part t) c) s
  unfolding room_of medium_part cache_part
  room_ready h = let k : 2 ≤ t.stage = omega arith in simp (le-ltb _ _ k, le-ltb _ _ h)

  pub stage_in_law : stage_in (room_of t m c s) ≡ stage_of t
  unfolding stage_of
  stage_in_law =
      stage_case t (λ h. ap stage_in (room_gone h) ∙ simp (lt-ltb _ _ h))
      (λ h g. ap stage_in (room_shut h g) ∙ simp (le-ltb _ _ h, lt-ltb _ _ g))
      (λ h. let k : 2 ≤ t.stage = omega arith in ap stage_in (room_ready h) ∙ simp (le-ltb _ _ k, le-ltb _ _ h))

  pub medium_in_law : medium_in (room_of t m c s) ≡ take (medium_part t) m
  unfolding medium_part
  medium_in_law =
      stage_case t (λ h. ap medium_in (room_gone h) ∙ simp (lt-ltb _ _ h))
      (λ h g. ap medium_in (room_shut h g)) (λ h. ap medium_in (room_ready h))

  pub cache_in_law : cache_in (room_of t m c s) ≡ take (cache_part t) c
  unfolding cache_part
  cache_in_law =
      stage_case t (λ h. let k : t.stage < 3 = omega arith in ap cache_in (room_gone h) ∙ simp (lt-ltb _ _ k))
      (λ h g. ap cache_in (room_shut h g) ∙ simp (lt-ltb _ _ g)) (λ h. ap cache_in (room_ready h))

  pub blocks_in_law : 2 ≤ t.stage → blocks_in (room_of t m c s) ≡ t.blocks
  blocks_in_law k =
      stage_case t (λ h. absurd (omega arith)) (λ h g. ap blocks_in (room_shut h g)) (λ h. ap blocks_in (room_ready h))

  pub pages_in_law : 2 ≤ t.stage → pages_in (room_of t m c s) ≡ t.pages
  pages_in_law k =
      stage_case t (λ h. absurd (omega arith)) (λ h g. ap pages_in (room_shut h g)) (λ h. ap pages_in (room_ready h))

-- the medium's part does not depend on the stage where there is a medium
pub medium_part_law : (t : Standing) → 2 ≤ t.stage → medium_part t ≡ min t.bytes 50688
unfolding medium_part
medium_part_law t h = simp (le-ltb _ _ h)

pub no_medium : (t : Standing) → t.stage < 2 → medium_part t ≡ 0
unfolding medium_part
no_medium t h = simp (lt-ltb _ _ h)

-- the first n elements, lent and laid back
pub first_length : (l : List ℕ) (n : ℕ) → n ≤ length l → n ≡ length (take n l)
first_length l n h = sym (length-take-le n l h)

pub first_back : (l v : List ℕ) (n : ℕ) → n ≤ length l → length v ≡ length (take n l) → take n (v ++ drop n l) ≡ v
first_back l v n h e = take_at v (drop n l) n (e ∙ length-take-le n l h)
