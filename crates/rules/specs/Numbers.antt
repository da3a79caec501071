-- Document 01, "Numbers returned": each answer and each refusal is a constructor; `reply` gives the number and the words of an answer,
-- `refusal_number` the number of a refusal.
use Rattle.std.specs.Prelude.{ℕ, Bool, List, [], ◌∷◌, eqb, length}

-- What an accepted call answers: p is a process, c a channel, v a value.
pub data Answer : Type 0 where
  BUILT : Answer
  TAKEN : (p c : ℕ) → Answer
  MOVED : Answer
  SLEPT : (p : ℕ) → Answer
  IDLE : Answer
  GO : (p : ℕ) → Answer
  SENT : (p c : ℕ) → Answer
  GOT : (p c v : ℕ) → Answer
  CHOSE : (p c : ℕ) → Answer

-- Why a call is refused.
pub data Refusal : Type 0 where
  SIZE PAIRS ROOM NAME SELF : Refusal
  ANSWER DAMAGED CORE BUSY AWAITED : Refusal
  GUARDS CHANNEL OTHER_END TWICE FAULT : Refusal

pub data Said : Type 0 where
  yes_with : Answer → Said
  no_because : Refusal → Said

-- The number returned, and the answer words: process, channel, value. "a word that doesn't apply is 0"
pub record Reply : Type 0 where
  pub number : ℕ
  pub process : ℕ
  pub channel : ℕ
  pub value : ℕ

abbrev says : ℕ → ℕ → ℕ → ℕ → Reply
says n p c v = record { number = n; process = p; channel = c; value = v }

-- The table of 01, row by row: what is answered.
abbrev pub reply : Answer → Reply
reply BUILT = says 0 0 0 0
reply (TAKEN p c) = says 1 p c 0
reply MOVED = says 2 0 0 0
reply (SLEPT p) = says 3 p 0 0
reply IDLE = says 4 0 0 0
reply (GO p) = says 5 p 0 0
reply (SENT p c) = says 6 p c 0
reply (GOT p c v) = says 7 p c v
reply (CHOSE p c) = says 8 p c 0

-- Why a call is refused. "A refusal writes nothing anywhere": it has a number and no words.
abbrev pub refusal_number : Refusal → ℕ
refusal_number SIZE = 20
refusal_number PAIRS = 21
refusal_number ROOM = 22
refusal_number NAME = 23
refusal_number SELF = 24
refusal_number ANSWER = 25
refusal_number DAMAGED = 26
refusal_number CORE = 27
refusal_number BUSY = 28
refusal_number AWAITED = 29
refusal_number GUARDS = 30
refusal_number CHANNEL = 31
refusal_number OTHER_END = 32
refusal_number TWICE = 33
refusal_number FAULT = 34

-- the number returned
abbrev pub number_of : Said → ℕ
number_of (yes_with a) = (reply a).number
number_of (no_because why) = refusal_number why

-- What is lent for the answer, slice by slice; how long each must be; what an accepted call leaves there.
-- "The answer slice has exactly 3 words: process, channel, value"
pub record Lent : Type 0 where
  pub words : List ℕ

abbrev pub lends : List ℕ → Lent
lends words = record { words = words }

abbrev pub answer_size : ℕ
answer_size = 3

abbrev pub well_lent : Lent → Bool
well_lent l = eqb (length l.words) answer_size

abbrev pub written : Answer → Lent
written a = lends ((reply a).process ∷ (reply a).channel ∷ (reply a).value ∷ [])
