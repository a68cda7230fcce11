-- A run whose bytes come one by one prints what the lines of the whole input print: the line begun is made of the bytes
-- since the last newline, and what is printed only grows.
use mathlib.Core.Path.{◌≡◌, refl, sym, ap, ◌∙◌}
use mathlib.Core.Bool.{Bool, true, false, cond}
use mathlib.Core.List.{List, [], ◌∷◌, ◌++◌, append-nil, append_assoc}
use Prim.Native.Nat.{ℕ}
use lib.Dec.{eqb}
use borrow.Author.Tests.{eqb-true}
use Rattle.script.specs.declared.line.Line.{Line}
use Rattle.script.specs.Words.{ahead, lines_of}
use Rattle.script.specs.Reader.{no_line, grown, grown_by}
use Rattle.script.specs.Run.{Step, stops, goes, followed, prints_from, Stand, stand, stepped, turned, play_of, finished}
use Rattle.script.specs.Run.{written, over_reads, joined_reads}
use Rattle.fields.proofs.Choose.{bool_case}

-- bytes in front of lines
abbrev prepend : List ℕ → List (List ℕ) → List (List ℕ)
prepend [] [] = []
prepend (b ∷ p) [] = (b ∷ p) ∷ []
prepend p (l ∷ ls) = (p ++ l) ∷ ls

prepend_none : (ls : List (List ℕ)) → prepend [] ls ≡ ls
prepend_none [] = refl
prepend_none (l ∷ ls) = refl

prepend_ahead : (p : List ℕ) (b : ℕ) (ls : List (List ℕ)) → prepend (p ++ (b ∷ [])) ls ≡ prepend p (ahead b ls)
prepend_ahead [] b [] = refl
prepend_ahead (x ∷ p) b [] = refl
prepend_ahead p b (l ∷ ls) = ap (λ (t : List ℕ). t ∷ ls) (append_assoc p (b ∷ []) l)

grown_snoc : (l : Line) (p : List ℕ) (b : ℕ) → grown_by l (p ++ (b ∷ [])) ≡ grown (grown_by l p) b
unfolding grown_by
grown_snoc l [] b = refl
grown_snoc l (x ∷ p) b = grown_snoc (grown l x) p b

-- does: what a line that was taken does; says: what it does by its bytes
module _ {W : Type 0} (does : W → Line → Step W) where
  pub play_off : (l : Line) (w : W) (o bs : List ℕ) → play_of does (stand l w false o) bs ≡ stand l w false o
  unfolding play_of turned
  play_off l w o [] = refl
  play_off l w o (b ∷ bs) = play_off l w o bs

  -- reads of any size: what is printed stands behind what was printed before
  abbrev behind : List ℕ → Stand W → Stand W
  behind o t = stand t.line t.world t.on (o ++ t.out)

  stepped_behind : (s : Step W) (w : W) (o x : List ℕ) → stepped s w (o ++ x) ≡ behind o (stepped s w x)
  stepped_behind stops w o x = refl
  stepped_behind (goes v y) w o x = ap (λ (z : List ℕ). stand no_line v true z) (append_assoc o x y)

  cond_behind : (b : Bool) (o : List ℕ) (x y u v : Stand W) → u ≡ behind o x → v ≡ behind o y
      → cond b u v ≡ behind o (cond b x y)
  cond_behind true o x y u v p q = p
  cond_behind false o x y u v p q = q

  turned_behind : (o : List ℕ) (t : Stand W) (b : ℕ) → turned does (behind o t) b ≡ behind o (turned does t b)
  unfolding turned
  turned_behind o t b =
      cond_behind t.on o _ _ _ _
      (cond_behind (eqb b 10) o _ _ _ _ (stepped_behind (does t.world t.line) t.world o t.out) refl) refl

  play_behind : (o : List ℕ) (t : Stand W) (bs : List ℕ) → play_of does (behind o t) bs ≡ behind o (play_of does t bs)
  unfolding play_of
  play_behind o t [] = refl
  play_behind o t (b ∷ bs) =
      ap (λ (u : Stand W). play_of does u bs) (turned_behind o t b) ∙ play_behind o (turned does t b) bs

  cond_out : (b : Bool) (o x y u v : List ℕ) → u ≡ o ++ x → v ≡ o ++ y → cond b u v ≡ o ++ cond b x y
  cond_out true o x y u v p q = p
  cond_out false o x y u v p q = q

  finished_behind : (o : List ℕ) (t : Stand W) → finished does (behind o t) ≡ o ++ finished does t
  unfolding finished
  finished_behind o t =
      cond_out t.on o _ _ _ _
      (cond_out (eqb t.line.letter 0) o _ _ _ _ refl (ap (λ (u : Stand W). u.out) (turned_behind o t 10))) refl

  behind_written : (t : Stand W) → behind t.out (written t) ≡ t
  unfolding written
  behind_written t = ap (λ (o : List ℕ). stand t.line t.world t.on o) (append-nil t.out)

  pub play_append : (t : Stand W) (a b : List ℕ) → play_of does t (a ++ b) ≡ play_of does (play_of does t a) b
  unfolding play_of
  play_append t [] b = refl
  play_append t (x ∷ a) b = play_append (turned does t x) a b

  one_read : (t : Stand W) (a b : List ℕ) → finished does (play_of does t (a ++ b))
      ≡ (play_of does t a).out ++ finished does (play_of does (written (play_of does t a)) b)
  one_read t a b =
      ap (finished does)
      (play_append t a b
      ∙ ap (λ (u : Stand W). play_of does u b) (sym (behind_written (play_of does t a)))
      ∙ play_behind (play_of does t a).out (written (play_of does t a)) b)
      ∙ finished_behind (play_of does t a).out (play_of does (written (play_of does t a)) b)

  over_reads_law : (ps : List (List ℕ)) (t : Stand W) → over_reads does t ps
      ≡ finished does (play_of does t (joined_reads ps))
  unfolding over_reads joined_reads play_of
  over_reads_law [] t = refl
  over_reads_law (p ∷ ps) t =
      ap (λ (x : List ℕ). (play_of does t p).out ++ x) (over_reads_law ps (written (play_of does t p)))
      ∙ sym (one_read t p (joined_reads ps))

  module _ (says : W → List ℕ → Step W) (same : (w : W) (bs : List ℕ) → does w (grown_by no_line bs) ≡ says w bs)
      (idle : (w : W) (l : Line) → l.letter ≡ 0 → does w l ≡ stops) where
    from_start : (rs : List ℕ) (w : W) (o : List ℕ)
        → ((p : List ℕ) → finished does (play_of does (stand (grown_by no_line p) w true o) rs)
        ≡ o ++ prints_from says w (prepend p (lines_of rs)))
        → finished does (play_of does (stand no_line w true o) rs) ≡ o ++ prints_from says w (lines_of rs)
    unfolding grown_by
    from_start rs w o f = f [] ∙ ap (λ (ls : List (List ℕ)). o ++ prints_from says w ls) (prepend_none (lines_of rs))

    -- the line ends with the input
    last_line : (s : Step W) (w : W) (o : List ℕ) → (stepped s w o).out ≡ o ++ followed s (λ v. prints_from says v [])
    unfolding prints_from
    last_line stops w o = sym (append-nil o)
    last_line (goes v x) w o = ap (λ (t : List ℕ). o ++ t) (sym (append-nil x))

    -- lines come behind it
    next_line : (s : Step W) (w : W) (o rs : List ℕ)
        → ((v : W) (x : List ℕ) → finished does (play_of does (stand no_line v true x) rs)
        ≡ x ++ prints_from says v (lines_of rs))
        → finished does (play_of does (stepped s w o) rs) ≡ o ++ followed s (λ v. prints_from says v (lines_of rs))
    unfolding finished
    next_line stops w o rs ih = ap (finished does) (play_off no_line w o rs) ∙ sym (append-nil o)
    next_line (goes v x) w o rs ih = ih v (o ++ x) ∙ append_assoc o x (prints_from says v (lines_of rs))

    ends : (p : List ℕ) (w : W) (o : List ℕ) → finished does (stand (grown_by no_line p) w true o)
        ≡ o ++ prints_from says w (prepend p [])
    unfolding finished turned prints_from grown_by no_line
    ends [] w o = sym (append-nil o)
    ends (b ∷ p) w o =
        let l : Line = grown_by no_line (b ∷ p) in
        bool_case (eqb l.letter 0)
        (λ z.
        simp z
        (sym (append-nil o)
        ∙ ap (λ (s : Step W). o ++ followed s (λ v. [])) (sym (idle w l (eqb-true l.letter 0 z)) ∙ same w (b ∷ p))))
        (λ z. simp z (last_line (does w l) w o ∙ ap (λ (s : Step W). o ++ followed s (λ v. [])) (same w (b ∷ p))))

    -- the bytes p of a line were taken, and the bytes rs come
    from_here : (rs p : List ℕ) (w : W) (o : List ℕ)
        → finished does (play_of does (stand (grown_by no_line p) w true o) rs)
        ≡ o ++ prints_from says w (prepend p (lines_of rs))
    unfolding play_of turned lines_of prints_from
    from_here [] p w o = ends p w o
    from_here (b ∷ rs) p w o =
        bool_case (eqb b 10)
        (λ t.
        simp t
        (next_line (does w (grown_by no_line p)) w o rs (λ v x. from_start rs v x (λ q. from_here rs q v x))
        ∙ ap (λ (s : Step W). o ++ followed s (λ v. prints_from says v (lines_of rs)))
        (same w p ∙ ap (says w) (sym (append-nil p)))))
        (λ t.
        simp t
        (ap (λ (l : Line). finished does (play_of does (stand l w true o) rs)) (sym (grown_snoc no_line p b))
        ∙ from_here rs (p ++ (b ∷ [])) w o
        ∙ ap (λ (ls : List (List ℕ)). o ++ prints_from says w ls) (prepend_ahead p b (lines_of rs))))

    pub whole : (input : List ℕ) (w : W) → finished does (play_of does (stand no_line w true []) input)
        ≡ prints_from says w (lines_of input)
    whole input w = from_start input w [] (λ q. from_here input q w [])

    pub whole_reads : (ps : List (List ℕ)) (w : W) → over_reads does (stand no_line w true []) ps
        ≡ prints_from says w (lines_of (joined_reads ps))
    whole_reads ps w = over_reads_law ps (stand no_line w true []) ∙ whole (joined_reads ps) w
