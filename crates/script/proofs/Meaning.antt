-- Taking the bytes of a line one by one gives the form that the line has by its words: the form of a begun line with
-- the bytes still to come stays the same when one of them is taken.
use Rattle.std.specs.Prelude.{Option, None, Some}
use mathlib.Core.Path.{◌≡◌, refl, sym, ap, ◌∙◌}
use mathlib.Core.Bool.{Bool, true, false, cond}
use mathlib.Core.List.{List, [], ◌∷◌}
use Prim.Native.Nat.{ℕ, suc, ◌+◌, ◌-◌, ◌≤◌, ◌<◌}
use native.Mathlib.Omega.{arith}
use lib.ListN.{length}
use lib.Dec.{eqb, ltb, leb}
use borrow.Author.Tests.{ltb-true, leb-true, leb-false, eqb-true, eqb-false, lt-ltb, le-ltb, eq-eqb, ne_eqb}
use Rattle.script.specs.declared.line.Line.{Line}
use Rattle.script.specs.Words.{ahead, words_of, is_in, number_of, hex_digit}
use Rattle.script.specs.Form.{Word, word_of, Form, other, bare, ending, behind, after_letter, is_letter, by_words}
use Rattle.script.specs.Form.{limited, form_of}
use Rattle.script.specs.Reader.{no_line, spoilt, lettered, with_letter, is_number, next_word, with_space, with_digit}
use Rattle.script.specs.Reader.{no_word, grown, grown_by, done_of, seen_of}
use Rattle.script.specs.Replay.{replay_of, line_of, meaning_of}
use Rattle.fields.proofs.Choose.{cond_elim, bool_case, no}
use Rattle.script.proofs.ReaderLaws.{done_few}
use Rattle.script.proofs.LastWord.{Held, number_from, word_from, number_start, number_end, word_start, word_digit}
use Rattle.script.proofs.LastWord.{word_other, word_end, digit_held}

-- the numbers taken before those that are still to come
abbrev with_done : Line → Form → Form
with_done l other = other
with_done l (bare k) = bare k
with_done l (ending k ns w) = ending k (done_of l ns) w

abbrev in_word : Line → List (List ℕ) → Form
in_word l [] = other
in_word l (w ∷ []) = ending l.letter [] (word_from l w)
in_word l (w ∷ (v ∷ ws)) = behind (number_from l w) (after_letter l.letter (v ∷ ws))

-- the form of a begun line if the bytes rs come before its end
unfoldable rest_of : Line → List ℕ → Form
rest_of l rs =
    cond l.bad other
    (cond (eqb l.letter 0) (limited (by_words (words_of rs)))
    (cond (eqb l.count 0) (limited (by_words (ahead l.letter (words_of rs))))
    (limited (with_done l (in_word l (words_of rs))))))

-- what holds of every line that was taken
record Sound (l : Line) : Type 0 where
  none_before : l.letter ≡ 0 → l.count ≡ 0
  lettered : (l.letter ≡ 0 → ⊥) → is_letter l.letter ≡ true
  held : Held l

module _ (l : Line) (rs : List ℕ) where
  rest_bad : l.bad ≡ true → rest_of l rs ≡ other
  unfolding rest_of
  rest_bad f = simp f

  rest_none : l.bad ≡ false → eqb l.letter 0 ≡ true → rest_of l rs ≡ limited (by_words (words_of rs))
  unfolding rest_of
  rest_none f z = simp (f, z)

  rest_bare : l.bad ≡ false → eqb l.letter 0 ≡ false → eqb l.count 0 ≡ true
      → rest_of l rs ≡ limited (by_words (ahead l.letter (words_of rs)))
  unfolding rest_of
  rest_bare f z k = simp (f, z, k)

  rest_in : l.bad ≡ false → eqb l.letter 0 ≡ false → eqb l.count 0 ≡ false
      → rest_of l rs ≡ limited (with_done l (in_word l (words_of rs)))
  unfolding rest_of
  rest_in f z k = simp (f, z, k)

-- every line has a first word
words_some : {P : Type 0} (rs : List ℕ) → ((w : List ℕ) (ws : List (List ℕ)) → words_of rs ≡ w ∷ ws → P) → P
unfolding words_of
words_some [] f = f [] [] refl
words_some (b ∷ rs) f =
    words_some rs (λ w ws e.
    bool_case (eqb b 32) (λ t. f [] (words_of rs) (simp t)) (λ t. f (b ∷ w) ws (simp (t, e))))

space_words : (b : ℕ) (rs : List ℕ) → eqb b 32 ≡ true → words_of (b ∷ rs) ≡ [] ∷ words_of rs
unfolding words_of
space_words b rs t = simp t

other_words : (b : ℕ) (rs : List ℕ) → eqb b 32 ≡ false → words_of (b ∷ rs) ≡ ahead b (words_of rs)
unfolding words_of
other_words b rs t = simp t

-- words behind the letter are of another form, or end in a word
behind_case : (P : Form → Type 0) (k : ℕ) (n : Option ℕ) (f : Form)
    → ((Q : Form → Type 0) → Q other → ((ns : List ℕ) (x : Word) → Q (ending k ns x)) → Q f)
    → P other → ((ns : List ℕ) (x : Word) → P (ending k ns x)) → P (behind n f)
behind_case P k None f r o e = o
behind_case P k (Some n) f r o e = r (λ g. P (behind (Some n) g)) o (λ ns x. e (n ∷ ns) x)

pub after_case : (P : Form → Type 0) (k : ℕ) (v : List ℕ) (vs : List (List ℕ)) → P other
    → ((ns : List ℕ) (x : Word) → P (ending k ns x)) → P (after_letter k (v ∷ vs))
unfolding after_letter
after_case P k v [] o e = e [] (word_of v)
after_case P k v (w ∷ ws) o e =
    behind_case P k (number_of v) (after_letter k (w ∷ ws)) (λ Q p q. after_case Q k w ws p q) o e

letter_some : (b : ℕ) → is_letter b ≡ true → b ≡ 0 → ⊥
unfolding is_letter is_in
letter_some b t e = let z : false ≡ true = simp e at t in no z

first_not : (b : ℕ) (w : List ℕ) (ws : List (List ℕ)) → is_letter b ≡ false → by_words ((b ∷ w) ∷ ws) ≡ other
first_not b [] ws t = simp t
first_not b (x ∷ w) ws t = refl

-- another word begins
module _ (l : Line) where
  begin_word : (ws : List (List ℕ)) (v : List ℕ) (vs : List (List ℕ)) → ws ≡ v ∷ vs
      → in_word (next_word l) ws ≡ after_letter l.letter ws
  unfolding after_letter next_word
  begin_word ws v [] e =
      simp e (ap (ending l.letter []) (word_start (next_word l) v refl refl refl refl refl))
  begin_word ws v (w ∷ vs) e =
      simp e (ap (λ (n : Option ℕ). behind n (after_letter l.letter (w ∷ vs)))
      (number_start (next_word l) v refl refl refl))

  done_first : l.count ≡ 0 → (f : Form) → with_done (next_word l) f ≡ f
  unfolding done_of next_word
  done_first e other = refl
  done_first e (bare k) = refl
  done_first e (ending k ns w) = simp e

  done_next : (ns : List ℕ) → l.count < 5 → done_of l (l.last ∷ ns) ≡ done_of (next_word l) ns
  unfolding done_of next_word
  done_next ns h = let m : 5 - l.count ≡ suc (5 - (l.count + 1)) = omega arith in simp m

  done_later : (v : List ℕ) (vs : List (List ℕ)) → l.count < 5
      → with_done l (behind (Some l.last) (after_letter l.letter (v ∷ vs)))
      ≡ with_done (next_word l) (after_letter l.letter (v ∷ vs))
  done_later v vs h =
      after_case (λ f. with_done l (behind (Some l.last) f) ≡ with_done (next_word l) f) l.letter v vs refl
      (λ ns x. ap (λ (t : List ℕ). ending l.letter t x) (done_next ns h))

  too_many : (o : Option ℕ) (v : List ℕ) (vs : List (List ℕ)) → 5 ≤ l.count
      → limited (with_done l (behind o (after_letter l.letter (v ∷ vs)))) ≡ other
  unfolding limited done_of
  too_many None v vs h = refl
  too_many (Some n) v vs h =
      after_case (λ f. limited (with_done l (behind (Some n) f)) ≡ other) l.letter v vs refl
      (λ ns x.
      let m : 5 - l.count ≡ 0 = omega arith in
      let k : 4 < suc (suc (suc (suc (suc (length ns))))) = omega arith in
      simp (m, lt-ltb _ _ k))

-- one byte more, by the tests that the reader makes
module _ (l : Line) (b : ℕ) (rs : List ℕ) (sound : Sound l) (fine : l.bad ≡ false) where
  spoils : grown l b ≡ spoilt l → rest_of (grown l b) rs ≡ other
  unfolding spoilt
  spoils e = ap (λ (x : Line). rest_of x rs) e ∙ rest_bad (spoilt l) rs refl

  by_none : eqb b 32 ≡ true → eqb l.letter 0 ≡ true → rest_of l (b ∷ rs) ≡ rest_of (grown l b) rs
  unfolding grown with_space limited
  by_none t z =
      rest_none l (b ∷ rs) fine z ∙ ap (λ (x : List (List ℕ)). limited (by_words x)) (space_words b rs t)
      ∙ sym (spoils (simp (t, z)))

  -- a space behind the letter
  by_bare : eqb b 32 ≡ true → eqb l.letter 0 ≡ false → eqb l.count 0 ≡ true
      → rest_of l (b ∷ rs) ≡ rest_of (grown l b) rs
  unfolding grown with_space next_word
  by_bare t z k =
      let k0 : l.count ≡ 0 = eqb-true l.count 0 k in
      let p : l.count + 1 ≡ 0 → ⊥ = λ e. omega arith in
      let y : is_letter l.letter ≡ true = sound.lettered (eqb-false l.letter 0 z) in
      let e : grown l b ≡ next_word l = simp (t, z, k) in
      words_some rs (λ v vs w.
      rest_bare l (b ∷ rs) fine z k
      ∙ ap (λ (x : List (List ℕ)). limited (by_words (ahead l.letter x))) (space_words b rs t)
      ∙ ap (λ (x : Bool). limited (cond x (after_letter l.letter (words_of rs)) other)) y
      ∙ ap limited (sym (begin_word l (words_of rs) v vs w)
      ∙ sym (done_first l k0 (in_word (next_word l) (words_of rs))))
      ∙ sym (rest_in (next_word l) rs fine z (ne_eqb _ _ p))
      ∙ ap (λ (x : Line). rest_of x rs) (sym e))

  -- a space behind a word
  in_space : eqb b 32 ≡ true → eqb l.letter 0 ≡ false → eqb l.count 0 ≡ false
      → rest_of l (b ∷ rs) ≡ limited (with_done l (in_word l ([] ∷ words_of rs)))
  in_space t z k =
      rest_in l (b ∷ rs) fine z k ∙ ap (λ (x : List (List ℕ)). limited (with_done l (in_word l x))) (space_words b rs t)

  by_space : eqb b 32 ≡ true → eqb l.letter 0 ≡ false → eqb l.count 0 ≡ false
      → rest_of l (b ∷ rs) ≡ rest_of (grown l b) rs
  unfolding grown with_space next_word limited
  by_space t z k =
      words_some rs (λ v vs w.
      in_space t z k
      ∙ ap (λ (x : List (List ℕ)). limited (with_done l (in_word l ([] ∷ x)))) w
      ∙ bool_case (leb 5 l.count)
      (λ m. too_many l (number_from l []) v vs (leb-true 5 l.count m) ∙ sym (spoils (simp (t, z, k, m))))
      (λ m.
      let h : l.count < 5 = leb-false 5 l.count m in
      let p : l.count + 1 ≡ 0 → ⊥ = λ e. omega arith in
      ap (λ (o : Option ℕ). limited (with_done l (behind o (after_letter l.letter (v ∷ vs))))) (number_end l sound.held)
      ∙ bool_case (is_number l)
      (λ n.
      let e : grown l b ≡ next_word l = simp (t, z, k, m, n) in
      ap (λ (x : Bool). limited (with_done l (behind (cond x (Some l.last) None) (after_letter l.letter (v ∷ vs))))) n
      ∙ ap limited (done_later l v vs h)
      ∙ ap (λ (x : List (List ℕ)). limited (with_done (next_word l) (after_letter l.letter x))) (sym w)
      ∙ ap (λ (x : Form). limited (with_done (next_word l) x)) (sym (begin_word l (words_of rs) v vs w))
      ∙ sym (rest_in (next_word l) rs fine z (ne_eqb _ _ p))
      ∙ ap (λ (x : Line). rest_of x rs) (sym e))
      (λ n.
      ap (λ (x : Bool). limited (with_done l (behind (cond x (Some l.last) None) (after_letter l.letter (v ∷ vs))))) n
      ∙ sym (spoils (simp (t, z, k, m, n))))))

  by_first : eqb b 32 ≡ false → eqb l.letter 0 ≡ true → rest_of l (b ∷ rs) ≡ rest_of (grown l b) rs
  unfolding grown with_letter lettered limited
  by_first t z =
      rest_none l (b ∷ rs) fine z ∙ ap (λ (x : List (List ℕ)). limited (by_words x)) (other_words b rs t)
      ∙ bool_case (is_letter b)
      (λ y.
      let e : grown l b ≡ lettered l b = simp (t, z, y) in
      sym (rest_bare (lettered l b) rs fine (ne_eqb _ _ (letter_some b y))
      (eq-eqb _ _ (sound.none_before (eqb-true l.letter 0 z))))
      ∙ ap (λ (x : Line). rest_of x rs) (sym e))
      (λ y. words_some rs (λ w ws e. ap (λ (x : List (List ℕ)). limited (by_words (ahead b x))) e
      ∙ ap limited (first_not b w ws y) ∙ sym (spoils (simp (t, z, y)))))

  by_second : eqb b 32 ≡ false → eqb l.letter 0 ≡ false → eqb l.count 0 ≡ true
      → rest_of l (b ∷ rs) ≡ rest_of (grown l b) rs
  unfolding grown limited
  by_second t z k =
      words_some rs (λ w ws e.
      rest_bare l (b ∷ rs) fine z k
      ∙ ap (λ (x : List (List ℕ)). limited (by_words (ahead l.letter x))) (other_words b rs t)
      ∙ ap (λ (x : List (List ℕ)). limited (by_words (ahead l.letter (ahead b x)))) e
      ∙ sym (spoils (simp (t, z, k))))

  -- a byte of a word
  word_goes : (g : Line) → g.letter ≡ l.letter → ((w : List ℕ) → word_from l (b ∷ w) ≡ word_from g w)
      → (ws : List (List ℕ)) (v : List ℕ) (vs : List (List ℕ)) → ws ≡ v ∷ vs → in_word l (ahead b ws) ≡ in_word g ws
  unfolding word_from
  word_goes g k f ws v [] e = simp (e, k) (ap (ending l.letter []) (f v))
  word_goes g k f ws v (w ∷ vs) e =
      simp (e, k) (ap (λ (x : Word). behind x.number (after_letter l.letter (w ∷ vs))) (f v))

  in_goes : (g : Line) → grown l b ≡ g → g.bad ≡ false → g.letter ≡ l.letter → g.count ≡ l.count
      → ((f : Form) → with_done l f ≡ with_done g f)
      → ((w : List ℕ) → word_from l (b ∷ w) ≡ word_from g w) → eqb b 32 ≡ false → eqb l.letter 0 ≡ false
      → eqb l.count 0 ≡ false
      → rest_of l (b ∷ rs) ≡ rest_of (grown l b) rs
  in_goes g e f h i d w t z k =
      words_some rs (λ v vs q.
      rest_in l (b ∷ rs) fine z k
      ∙ ap (λ (x : List (List ℕ)). limited (with_done l (in_word l x))) (other_words b rs t)
      ∙ ap (λ (x : Form). limited (with_done l x)) (word_goes g h w (words_of rs) v vs q)
      ∙ ap limited (d (in_word g (words_of rs)))
      ∙ sym (rest_in g rs f (ap (λ (n : ℕ). eqb n 0) h ∙ z) (ap (λ (n : ℕ). eqb n 0) i ∙ k))
      ∙ ap (λ (x : Line). rest_of x rs) (sym e))

  digit_done : (f : Form) → with_done l f ≡ with_done (with_digit l (hex_digit b)) f
  unfolding done_of with_digit
  digit_done other = refl
  digit_done (bare k) = refl
  digit_done (ending k ns w) = refl

  other_done : (f : Form) → with_done l f ≡ with_done (no_word l) f
  unfolding done_of no_word
  other_done other = refl
  other_done (bare k) = refl
  other_done (ending k ns w) = refl

  by_word : eqb b 32 ≡ false → eqb l.letter 0 ≡ false → eqb l.count 0 ≡ false
      → rest_of l (b ∷ rs) ≡ rest_of (grown l b) rs
  unfolding grown with_digit no_word
  by_word t z k =
      bool_case (ltb (hex_digit b) 16)
      (λ d. in_goes (with_digit l (hex_digit b)) (simp (t, z, k, d)) fine refl refl digit_done
      (λ w. word_digit l b w sound.held d) t z k)
      (λ d. in_goes (no_word l) (simp (t, z, k, d)) fine refl refl other_done (λ w. word_other l b w d) t z k)

  fine_step : rest_of l (b ∷ rs) ≡ rest_of (grown l b) rs
  fine_step =
      bool_case (eqb b 32)
      (λ t. bool_case (eqb l.letter 0) (λ z. by_none t z)
      (λ z. bool_case (eqb l.count 0) (λ k. by_bare t z k) (λ k. by_space t z k)))
      (λ t. bool_case (eqb l.letter 0) (λ z. by_first t z)
      (λ z. bool_case (eqb l.count 0) (λ k. by_second t z k) (λ k. by_word t z k)))

-- what holds of the lines that a byte can make
grown_case : (P : Line → Type 0) (l : Line) (b : ℕ) → P (spoilt l) → (eqb l.letter 0 ≡ false → P (next_word l))
    → (eqb l.letter 0 ≡ true → P (with_letter l b))
    → (eqb l.letter 0 ≡ false → ltb (hex_digit b) 16 ≡ true → P (with_digit l (hex_digit b)))
    → (eqb l.letter 0 ≡ false → P (no_word l)) → P (grown l b)
unfolding grown with_space
grown_case P l b s n w d o =
    cond_elim P (eqb b 32)
    (λ t. cond_elim P (eqb l.letter 0) (λ z. s)
    (λ z. cond_elim P (eqb l.count 0) (λ k. n z)
    (λ k. cond_elim P (leb 5 l.count) (λ m. s) (λ m. cond_elim P (is_number l) (λ i. n z) (λ i. s)))))
    (λ t. cond_elim P (eqb l.letter 0) (λ z. w z)
    (λ z. cond_elim P (eqb l.count 0) (λ k. s) (λ k. cond_elim P (ltb (hex_digit b) 16) (λ y. d z y) (λ y. o z))))

letter_case : (P : Line → Type 0) (l : Line) (b : ℕ) → P (spoilt l) → (is_letter b ≡ true → P (lettered l b))
    → P (with_letter l b)
unfolding with_letter lettered
letter_case P l b s f = cond_elim P (is_letter b) f (λ y. s)

grown_bad : (l : Line) (b : ℕ) → l.bad ≡ true → (grown l b).bad ≡ true
unfolding spoilt next_word lettered with_digit no_word
grown_bad l b f =
    grown_case (λ g. g.bad ≡ true) l b refl (λ z. f) (λ z. letter_case (λ g. g.bad ≡ true) l b refl (λ y. f))
    (λ z d. f) (λ z. f)

grown_sound : (l : Line) (b : ℕ) → Sound l → Sound (grown l b)
unfolding spoilt next_word lettered no_word with_digit
grown_sound l b s =
    let spoils : Sound (spoilt l) = record {
      none_before = s.none_before;
      lettered = s.lettered;
      held = same (spoilt l) refl refl refl refl refl;
    } in
    grown_case Sound l b spoils
    (λ z. record {
      none_before = λ e. absurd (eqb-false l.letter 0 z e);
      lettered = s.lettered;
      held = record { small = λ n. omega arith; high_small = λ h. omega arith; low_small = λ h. omega arith };
    })
    (λ z. letter_case Sound l b spoils (λ y. record {
      none_before = λ e. s.none_before (eqb-true l.letter 0 z);
      lettered = λ e. y;
      held = same (lettered l b) refl refl refl refl refl;
    }))
    (λ z d. record {
      none_before = λ e. absurd (eqb-false l.letter 0 z e);
      lettered = s.lettered;
      held = digit_held l (hex_digit b) s.held (ltb-true (hex_digit b) 16 d);
    })
    (λ z. record {
      none_before = λ e. absurd (eqb-false l.letter 0 z e);
      lettered = s.lettered;
      held =
          record { small = λ n. no n; high_small = λ h. absurd (omega arith); low_small = λ h. absurd (omega arith) };
    })
  where
    same : (g : Line) → g.number ≡ l.number → g.last ≡ l.last → g.hexes ≡ l.hexes → g.high ≡ l.high
        → g.low ≡ l.low → Held g
    same g n a k h w = record {
      small = λ m. simp a (s.held.small (sym n ∙ m));
      high_small = λ m. simp (k, h) (s.held.high_small (simp k at m));
      low_small = λ m. simp (k, w) (s.held.low_small (simp k at m));
    }

no_line_sound : Sound no_line
unfolding no_line
no_line_sound = record {
  none_before = λ e. refl;
  lettered = λ e. absurd (e refl);
  held = record { small = λ n. omega arith; high_small = λ h. omega arith; low_small = λ h. omega arith };
}

-- taking a byte keeps the form
rest_step : (l : Line) (b : ℕ) (rs : List ℕ) → Sound l → rest_of l (b ∷ rs) ≡ rest_of (grown l b) rs
rest_step l b rs sound =
    bool_case l.bad
    (λ f. rest_bad l (b ∷ rs) f ∙ sym (rest_bad (grown l b) rs (grown_bad l b f)))
    (λ f. fine_step l b rs sound f)

-- where the bytes end, the form is what the reader sees
rest_end : (l : Line) → Sound l → rest_of l [] ≡ seen_of l
unfolding rest_of words_of limited after_letter seen_of
rest_end l sound =
    bool_case l.bad (λ f. simp f)
    (λ f. bool_case (eqb l.letter 0) (λ z. simp (f, z))
    (λ z.
    let y : is_letter l.letter ≡ true = sound.lettered (eqb-false l.letter 0 z) in
    bool_case (eqb l.count 0) (λ k. simp (f, z, k, y))
    (λ k.
    let h : length (done_of l []) ≤ 4 = done_few l in
    simp (f, z, k, le-ltb _ _ h, word_end l sound.held))))

rest_start : (bs : List ℕ) → rest_of no_line bs ≡ form_of bs
unfolding rest_of no_line form_of
rest_start bs = refl

rest_all : (bs : List ℕ) (l : Line) → Sound l → seen_of (grown_by l bs) ≡ rest_of l bs
unfolding grown_by
rest_all [] l sound = sym (rest_end l sound)
rest_all (b ∷ bs) l sound = rest_all bs (grown l b) (grown_sound l b sound) ∙ sym (rest_step l b bs sound)

-- the bytes of a line taken one by one: the line's form
pub line_form : (bs : List ℕ) → seen_of (grown_by no_line bs) ≡ form_of bs
line_form bs = rest_all bs no_line no_line_sound ∙ rest_start bs

-- .. and what it means to `replay`
pub line_meaning : (bs : List ℕ) → meaning_of (grown_by no_line bs) ≡ line_of bs
unfolding meaning_of line_of
line_meaning bs = ap replay_of (line_form bs)
