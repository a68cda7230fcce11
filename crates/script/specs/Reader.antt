-- A line of which the first bytes were taken, as a program keeps it: what another byte makes of it, and its form if it
-- ends here.
use Rattle.std.specs.Prelude.{ℕ, zero, suc, ◌+◌, ◌-◌, ◌*◌, ◌/◌, ◌%◌, ◌^◌, Bool, true, false, cond, List, [], ◌∷◌, ◌++◌, None, Some}
use Rattle.std.specs.Prelude.{drop, eqb, ltb, leb}
use Rattle.script.specs.declared.line.Line.{Line}
use Rattle.script.specs.declared.line.Taken.{Taken}
use Rattle.script.specs.Words.{hex_digit}
use Rattle.script.specs.Form.{Word, Form, other, bare, ending, is_letter}

-- 01: "reads lines": nothing taken yet
unfoldable pub no_line : Line
no_line = record {
  letter = 0;
  count = 0;
  fifth = 0;
  fourth = 0;
  third = 0;
  second = 0;
  last = 0;
  number = true;
  hexes = 0;
  high = 0;
  low = 0;
  bad = false;
}

-- 01: "the first line of another form": one that is so already, whatever comes
unfoldable pub spoilt : Line → Line
spoilt l = record {
  letter = l.letter;
  count = l.count;
  fifth = l.fifth;
  fourth = l.fourth;
  third = l.third;
  second = l.second;
  last = l.last;
  number = l.number;
  hexes = l.hexes;
  high = l.high;
  low = l.low;
  bad = true;
}

-- 01: "the letter"
unfoldable pub lettered : Line → ℕ → Line
lettered l b = record {
  letter = b;
  count = l.count;
  fifth = l.fifth;
  fourth = l.fourth;
  third = l.third;
  second = l.second;
  last = l.last;
  number = l.number;
  hexes = l.hexes;
  high = l.high;
  low = l.low;
  bad = l.bad;
}

-- 01: "per line the letter": the first byte
unfoldable pub with_letter : Line → ℕ → Line
with_letter l b = cond (is_letter b) (lettered l b) (spoilt l)

-- reading 17: "A number is one or more decimal digits": is the last word one?
unfoldable pub is_number : Line → Bool
is_number l = cond (eqb l.hexes 0) false l.number

-- reading 17: "exactly one space": another word begins
unfoldable pub next_word : Line → Line
next_word l = record {
  letter = l.letter;
  count = l.count + 1;
  fifth = l.fourth;
  fourth = l.third;
  third = l.second;
  second = l.last;
  last = 0;
  number = true;
  hexes = 0;
  high = 0;
  low = 0;
  bad = l.bad;
}

-- reading 17: "exactly one space": behind the letter or a number, and no line has more than five words
unfoldable pub with_space : Line → Line
with_space l =
    cond (eqb l.letter 0) (spoilt l)
    (cond (eqb l.count 0) (next_word l)
    (cond (leb 5 l.count) (spoilt l) (cond (is_number l) (next_word l) (spoilt l))))

-- reading 17: "below 2^64": is the last word a number with this digit too?
unfoldable pub stays_number : Line → ℕ → Bool
stays_number l d = cond l.number (cond (ltb d 10) (ltb (10 * l.last + d) (2 ^ 64)) false) false

-- replay: "values as 32 hex digits": how many there are with one more; 33 stands for more than a word may have
unfoldable pub one_more : ℕ → ℕ
one_more n = cond (leb 32 n) 33 (n + 1)

-- replay: "hex digits": one behind a number of 64 bits
unfoldable pub pushed : ℕ → ℕ → ℕ
pushed n d = n % 2 ^ 60 * 16 + d

-- replay: "numbers decimal", "hex digits": a digit behind the last word goes to the number that it is in decimal, and
-- to the high half of its hex digits if it is one of the first sixteen, else to the low half
unfoldable pub with_digit : Line → ℕ → Line
with_digit l d = record {
  letter = l.letter;
  count = l.count;
  fifth = l.fifth;
  fourth = l.fourth;
  third = l.third;
  second = l.second;
  last = cond (stays_number l d) (10 * l.last + d) l.last;
  number = stays_number l d;
  hexes = one_more l.hexes;
  high = cond (ltb l.hexes 16) (pushed l.high d) l.high;
  low = cond (ltb l.hexes 16) l.low (pushed l.low d);
  bad = l.bad;
}

-- 01: "the first line of another form": behind a byte that is no digit the last word is neither a number nor hex digits
unfoldable pub no_word : Line → Line
no_word l = record {
  letter = l.letter;
  count = l.count;
  fifth = l.fifth;
  fourth = l.fourth;
  third = l.third;
  second = l.second;
  last = l.last;
  number = false;
  hexes = 33;
  high = l.high;
  low = l.low;
  bad = l.bad;
}

-- 01: "reads lines": one byte more
unfoldable pub grown : Line → ℕ → Line
grown l b =
    cond (eqb b 32) (with_space l)
    (cond (eqb l.letter 0) (with_letter l b)
    (cond (eqb l.count 0) (spoilt l) (cond (ltb (hex_digit b) 16) (with_digit l (hex_digit b)) (no_word l))))

-- 01: "reads lines": the bytes of a line one after the other
unfoldable pub grown_by : Line → List ℕ → Line
grown_by l [] = l
grown_by l (b ∷ bs) = grown_by (grown l b) bs

-- 01: "W number record byte" and the like: the numbers before the last word
unfoldable pub done_of : Line → List ℕ → List ℕ
done_of l ns = drop (5 - l.count) (l.fifth ∷ (l.fourth ∷ (l.third ∷ (l.second ∷ ns))))

-- replay: "values as 32 hex digits": the k bytes of a number, the most significant first
unfoldable pub wide : ℕ → ℕ → List ℕ
wide zero n = []
wide (suc k) n = wide k (n / 256) ++ (n % 256 ∷ [])

-- replay: "numbers decimal", "values as 32 hex digits", "one byte (two hex digits)": the last word
unfoldable pub last_word : Line → Word
last_word l = record {
  number = cond (is_number l) (Some l.last) None;
  value = cond (eqb l.hexes 32) (Some (wide 8 l.high ++ wide 8 l.low)) None;
  byte = cond (eqb l.hexes 2) (Some (wide 1 l.high)) None;
}

-- 01: "the first line of another form": the form of the line if it ends here
unfoldable pub seen_of : Line → Form
seen_of l =
    cond l.bad other
    (cond (eqb l.letter 0) other
    (cond (eqb l.count 0) (bare l.letter) (ending l.letter (done_of l []) (last_word l))))

-- 01: "reads lines": the line that goes on with the bytes, the first of them at place i: up to a newline or to the end
-- of the bytes
unfoldable pub take_of : Line → List ℕ → ℕ → Taken
take_of l [] i = record { line = l; next = i; ended = false }
take_of l (b ∷ bs) i =
    cond (eqb b 10) (record { line = l; next = i + 1; ended = true }) (take_of (grown l b) bs (i + 1))
