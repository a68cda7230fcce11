-- A word, a place and a state are read from their own words, so what is laid over these is read again, and what is not stays.
use Rattle.std.proofs.lemmas.List.FromFn.{length-map-range_with_len}
use mathlib.Core.Path.{◌≡◌, sym, ap, ◌∙◌}
use mathlib.Core.List.{List, ◌++◌}
use Prim.Native.Nat.{ℕ, ◌+◌, ◌<◌}
use native.Mathlib.Omega.{arith}
use lib.ListN.{length, take, drop, get_or}
use lib.Seq.{take_at, drop_at, drop-drop, length-take-le, ext_get_or}
use Rattle.std.proofs.lemmas.List.{get_or-take, get_or-drop}
use Rattle.fields.specs.Part.{part}
use Rattle.fields.proofs.PartLaws.{length_part}
use Rattle.store.specs.declared.Place.{Place}
use Rattle.store.specs.declared.State.{State}
use Rattle.relief.specs.Words.{place_in, places_of, first_of, state_by, state_of, with_places}

-- there are as many places as a state has
pub length_places : (w : List ℕ) → length (places_of w) ≡ 64
unfolding places_of
length_places w = length-map-range_with_len (place_in w) 0 64

-- the first changes behind the 11 numbers in front of them
pub first_laid : (w f : List ℕ) → length w ≡ 448 → length f ≡ 64
    → take 64 (drop 53 (drop 11 (take 64 w ++ (f ++ drop 64 (drop 64 w))))) ≡ f
first_laid w f n m =
    ap (take 64) (drop-drop 53 11 (take 64 w ++ (f ++ drop 64 (drop 64 w))) ∙ drop_at (take 64 w) (f ++ drop 64 (drop 64 w)) 64 (length-take-le 64 w (omega arith)))
    ∙ take_at f (drop 64 (drop 64 w)) 64 m

-- a state whose numbers are laid in w and whose places are laid behind them in v
module _ (s : State) (w v : List ℕ) (n : length w ≡ 448) (m : length v ≡ 448) (front : (ps : List Place) → state_by w ps s.tail ≡ with_places s ps)
    (stays : (k : ℕ) → k < 128 → get_or v k 0 ≡ get_or w k 0) where
  first_stays : first_of v ≡ first_of w
  unfolding first_of
  first_stays =
      ext_get_or 0 (part v 64 64) (part w 64 64) (length_part v 64 64 (omega arith) ∙ sym (length_part w 64 64 (omega arith)))
      (λ i h.
      let l : i < 64 = omega (arith, length_part v 64 64) in
      get_part v i l ∙ stays (64 + i) (omega arith) ∙ sym (get_part w i l))
    where
      get_part : (l : List ℕ) (i : ℕ) → i < 64 → get_or (part l 64 64) i 0 ≡ get_or l (64 + i) 0
      get_part l i h = get_or-take 64 (drop 64 l) i 0 h ∙ get_or-drop 64 l i 0

  numbers_stay : (ps : List Place) → state_by v ps s.tail ≡ state_by w ps s.tail
  unfolding state_by
  numbers_stay ps =
      simp (
        stays 0 (omega arith),
        stays 1 (omega arith),
        stays 2 (omega arith),
        stays 3 (omega arith),
        stays 4 (omega arith),
        stays 5 (omega arith),
        stays 6 (omega arith),
        stays 7 (omega arith),
        stays 8 (omega arith),
        stays 9 (omega arith),
        stays 10 (omega arith),
        first_stays,
      )

  pub all_laid : places_of v ≡ s.places → state_of v s.tail ≡ s
  unfolding state_of with_places
  all_laid e = rw e (numbers_stay s.places ∙ front s.places)
