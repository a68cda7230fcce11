-- What happens in a run, and what is seen of it.
use Rattle.std.specs.Prelude.{ℕ, ◌^◌, Bool, true, ◌&&◌, List, [], ◌∷◌, length, eqb, ltb, Option}

-- 01: "fed the calls and cuts, the arguments": a call on an open store. A key is 01's record number.
pub data Call : Type 0 where
  begin : ℕ → Call  -- clock
  write : ℕ → ℕ → List ℕ → Call  -- number, key, value
  erase : ℕ → ℕ → Call  -- number, key
  current_read : ℕ → ℕ → Call  -- number, key
  commit : ℕ → ℕ → Call  -- number, clock
  abort : ℕ → Call  -- number
  as_of : ℕ → ℕ → Call  -- key, time
  changes : ℕ → ℕ → ℕ → List ℕ → Call  -- key, first and last time, answer buffer
  store_log : Call
  store_page : ℕ → Call
  checkpoint : Call

-- 01: "calls and cuts"; an opening brings any cache
pub data Event : Type 0 where
  opening : List ℕ → Event
  cut : Event
  call : Call → Event

-- 01: "none or erased are results": what a read gives
pub data Strip : Type 0 where
  missing : Strip
  erased : Strip
  present : List ℕ → Strip

-- 01: "each with its row's record, kind and value, and its time or none": a used slot that an opening finds
pub record Sight : Type 0 where
  pub key : ℕ
  pub kind : ℕ
  pub value : List ℕ
  pub time : Option ℕ

-- 01: "answers, and whether a write, erase or commit changed a log block on the medium"; a read's strip, a list's
-- answer buffer, and what an opening finds
pub record Observation : Type 0 where
  pub refusal : ℕ  -- 0: not refused
  pub result : ℕ
  pub strip : Strip
  pub changed : Bool
  pub buffer : List ℕ
  pub found : List Sight

-- 01: "a record or byte at most 255": are all of them bytes?
unfoldable pub are_bytes : List ℕ → Bool
are_bytes [] = true
are_bytes (b ∷ bs) = ltb b 256 && are_bytes bs

-- 01: "others below 2^64": a number, clock, time or page that a call can be given
abbrev pub is_word : ℕ → Bool
is_word n = ltb n (2 ^ 64)

-- 02, #104: "Record numbers become two bytes": a record number that a call can be given
abbrev pub is_record : ℕ → Bool
is_record key = ltb key 65536

-- 01: "transaction number (8), value (16)"; 02, #104: a record number of two bytes: are a call's arguments of these
-- sizes?
unfoldable pub call_typed : Call → Bool
call_typed (begin k) = is_word k
call_typed (write n key v) = is_word n && (is_record key && (eqb (length v) 16 && are_bytes v))
call_typed (erase n key) = is_word n && is_record key
call_typed (current_read n key) = is_word n && is_record key
call_typed (commit n k) = is_word n && is_word k
call_typed (abort n) = is_word n
call_typed (as_of key t) = is_record key && is_word t
call_typed (changes key t1 t2 b) = is_record key && (is_word t1 && (is_word t2 && are_bytes b))
call_typed store_log = true
call_typed (store_page p) = is_word p
call_typed checkpoint = true

-- 01: "the calls and cuts, the arguments": can an event be given these? The cache of an opening is any bytes
unfoldable pub typed : Event → Bool
typed (opening c) = are_bytes c
typed cut = true
typed (call k) = call_typed k
