-- A name is searched from its end: bytes that are no slash leave the folder's length to those before them, and at the last
-- slash it is found.
use Rattle.std.proofs.Common.{◌≡◌, ◌≢◌, ℕ, zero, suc, ◌+◌, ◌-◌, ◌<◌, ◌≤◌, List, length, get_or, sym, ap, ◌∙◌, arith}
use native.Mathlib.Numerals.{unary_clauses}
use borrow.Author.Tests.{eq-eqb, ne_eqb}
use Rattle.files.specs.Folder.{slash_up_to, folder_length}

slash_after : (name : List ℕ) (i n : ℕ) → i + n ≤ length name → ((k : ℕ) → i ≤ k → k < length name → get_or name k 0 ≢ 47) → slash_up_to name (i + n) ≡ slash_up_to name i
unfolding slash_up_to
slash_after name i zero h none = simp unary_clauses
slash_after name i (suc n) h none =
    simp (unary_clauses, ne_eqb _ _ (none (i + n) (omega arith) (omega arith))) (slash_after name i n (omega arith) none)

-- from byte i on there is no slash
folder_before : (name : List ℕ) (i : ℕ) → i ≤ length name → ((k : ℕ) → i ≤ k → k < length name → get_or name k 0 ≢ 47) → folder_length name ≡ slash_up_to name i
unfolding folder_length
folder_before name i h none =
    let e : length name ≡ i + (length name - i) = omega arith in
    ap (slash_up_to name) e ∙ slash_after name i (length name - i) (omega arith) none

pub folder_here : (name : List ℕ) (i : ℕ) → i < length name → get_or name i 0 ≡ 47 → ((k : ℕ) → i + 1 ≤ k → k < length name → get_or name k 0 ≢ 47) → i + 1 ≡ folder_length name
unfolding slash_up_to
folder_here name i h e none = sym (folder_before name (i + 1) (omega arith) none ∙ simp (unary_clauses, eq-eqb _ _ e))

pub folder_none : (name : List ℕ) → ((k : ℕ) → k < length name → get_or name k 0 ≢ 47) → 0 ≡ folder_length name
unfolding slash_up_to
folder_none name none = sym (folder_before name 0 (omega arith) (λ k _ h. none k h))
