-- What the lines of `replay` print.
use Rattle.layout.specs.declared.CommitTime.{CommitTime}
use Rattle.store.specs.declared.Refusal.{Refusal}
use Rattle.std.specs.Prelude.{ℕ, zero, suc, ◌*◌, ◌/◌, Bool, true, false, cond, ◌&&◌, List, [], ◌∷◌, ◌++◌, length, take, Err, Ok, Result}
use Rattle.std.specs.Prelude.{drop, get_or, eqb, ltb}
use Rattle.fields.specs.Field.{dec}
use Rattle.fields.specs.Part.{part}
use Rattle.fields.specs.Block.{blk}
use Rattle.store.specs.declared.Answer.{Answer}
use Rattle.store.specs.declared.Answer.TheVariants.{Done, Begun, Written, Committed, Opened, Missing, Erased, Present, Listed}
use Rattle.store.specs.Answer.{answer_number}
use Rattle.handover.specs.declared.HandRefusal.{HandRefusal}
use Rattle.handover.specs.Hand.{hand_number}
use Rattle.script.specs.Print.{decimal, hex_of}

-- replay: "A refusal prints the letter, the refusal's number and `-`"
abbrev pub dash : List ℕ
dash = 45 ∷ []

-- replay: "`R 0 none`", "`Q 0 none`"
abbrev pub none_text : List ℕ
none_text = 110 ∷ 111 ∷ 110 ∷ 101 ∷ []

-- replay: "`R 0 erased`", "`Q 0 erased`"
abbrev pub erased_text : List ℕ
erased_text = 101 ∷ 114 ∷ 97 ∷ 115 ∷ 101 ∷ 100 ∷ []

-- replay: "`F 0 0`", "`O 0 lasttime`", "`B 0 number`", "`W 0 slot`", "`R 0 value`", "`C 0 time` (0 without versions)",
-- "`L 0 count`": the last word of a call's line; v is the value beside a read's answer
unfoldable pub result_text : Result Answer Refusal → List ℕ → List ℕ
result_text (Err r) v = dash
result_text (Ok Done) v = decimal 0
result_text (Ok (Begun n)) v = decimal n.0
result_text (Ok (Written slot)) v = decimal slot
result_text (Ok (Committed t)) v = decimal t.0
result_text (Ok (Opened t)) v = decimal t.0
result_text (Ok Missing) v = none_text
result_text (Ok Erased) v = erased_text
result_text (Ok Present) v = hex_of v
result_text (Ok (Listed k)) v = decimal k

-- replay: "A refusal prints the letter, the refusal's number and `-`", else the number is 0: a call's line
unfoldable pub answer_text : ℕ → Result Answer Refusal → List ℕ → List ℕ
answer_text letter answer v =
    letter ∷ (32 ∷ (decimal (answer_number answer) ++ (32 ∷ (result_text answer v ++ (10 ∷ [])))))

-- replay: "`H 0 time` or `H n -`": the last word of a handover's line
unfoldable pub handed_result : Result CommitTime HandRefusal → List ℕ
handed_result (Err r) = dash
handed_result (Ok t) = decimal t.0

-- replay: "`H 0 time` or `H n -`", "17 is the handover's own refusal": a handover's line
unfoldable pub handed_text : Result CommitTime HandRefusal → List ℕ
handed_text answer = 72 ∷ (32 ∷ (decimal (hand_number answer) ++ (32 ∷ (handed_result answer ++ (10 ∷ [])))))

-- replay: "`time kind value` each on its own line (kind 0 or 1)": a line of a list, from its 32 bytes
unfoldable pub change_text : List ℕ → List ℕ
change_text w =
    decimal (dec (part w 0 8)) ++ (32 ∷ (decimal (get_or w 8 0) ++ (32 ∷ (hex_of (part w 16 16) ++ (10 ∷ [])))))

-- replay: "then the list's lines": k lines from the front of the answer buffer
unfoldable pub changes_text : ℕ → List ℕ → List ℕ
changes_text zero b = []
changes_text (suc k) b = change_text (take 32 b) ++ changes_text k (drop 32 b)

-- replay: "if all later bytes of the buffer are still 170"
unfoldable pub all_are : ℕ → List ℕ → Bool
all_are n [] = true
all_are n (b ∷ bs) = eqb b n && all_are n bs

-- replay: "`=` and, after one space, `kept` if all later bytes of the buffer are still 170 else `spoilt`"
unfoldable pub kept_text : Bool → List ℕ
kept_text true = 61 ∷ 32 ∷ 107 ∷ 101 ∷ 112 ∷ 116 ∷ 10 ∷ []
kept_text false = 61 ∷ 32 ∷ 115 ∷ 112 ∷ 111 ∷ 105 ∷ 108 ∷ 116 ∷ 10 ∷ []

-- replay: "`L 0 count`, then the list's lines .., then `=`": what stands behind the line of a list's answer
unfoldable pub list_text : Result Answer Refusal → List ℕ → List ℕ
list_text (Err r) b = []
list_text (Ok Done) b = []
list_text (Ok (Begun n)) b = []
list_text (Ok (Written slot)) b = []
list_text (Ok (Committed t)) b = []
list_text (Ok (Opened t)) b = []
list_text (Ok Missing) b = []
list_text (Ok Erased) b = []
list_text (Ok Present) b = []
list_text (Ok (Listed k)) b = changes_text k b ++ kept_text (all_are 170 (drop (32 * k) b))

-- replay: "the 512 bytes of that block .. as 1024 hex digits; out of range: `M -`": block k of the bytes
unfoldable pub block_text : List ℕ → ℕ → List ℕ
block_text bs k = cond (ltb k (length bs / 512)) (hex_of (blk bs k)) dash

-- replay: "`M hex`", "`V hex`"
unfoldable pub shown_text : ℕ → List ℕ → ℕ → List ℕ
shown_text letter bs k = letter ∷ (32 ∷ (block_text bs k ++ (10 ∷ [])))
