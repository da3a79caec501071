-- A rule is a small program over items: it reads, writes, answers or refuses. What it touches can be read off it.
-- `x ← the k n`: x is the value that item k of core, process or channel n has now. `becomes k n v`: that item has the value v from here on.
-- `refuse why`: the call is refused, and nothing that the rule wrote stands. `done a`: the rule ends with a, a call's rule with its answer.
use Rattle.std.specs.Prelude.{ℕ}
use Rattle.rules.specs.Numbers.{Refusal}
use Rattle.rules.specs.State.{State}
use Rattle.rules.specs.Items.{Kind, Val, get, put}

infixl 20 ◌>>=◌ ◌>>◌
pub data Rule (A : Type 0) : Type 0 where
  done : A → Rule A
  refuse : Refusal → Rule A
  read : (k : Kind) (n : ℕ) → (Val k → Rule A) → Rule A
  write : (k : Kind) (n : ℕ) → Val k → Rule A → Rule A

-- one rule, then another that may use what the first gave
abbrev pub ◌>>=◌ : {A B : Type 0} → Rule A → (A → Rule B) → Rule B
◌>>=◌ (done a) f = f a
◌>>=◌ (refuse r) f = refuse r
◌>>=◌ (read k n g) f = read k n (λ v. ◌>>=◌ (g v) f)
◌>>=◌ (write k n v r) f = write k n v (◌>>=◌ r f)

abbrev pub ◌>>◌ : {A B : Type 0} → Rule A → Rule B → Rule B
◌>>◌ r q = ◌>>=◌ r (λ _. q)

-- the value of an item
abbrev pub the : (k : Kind) → ℕ → Rule (Val k)
the k n = read k n done

-- an item takes a value
abbrev pub becomes : (k : Kind) → ℕ → Val k → Rule (Unit {0})
becomes k n v = write k n v (done tt)

-- nothing is done
abbrev pub go_on : Rule (Unit {0})
go_on = done tt

-- What a rule comes to from a state. A refusal drops the writes made so far: "A refusal writes nothing anywhere."
pub data Ran (A : Type 0) : Type 0 where
  accepted : A → State → Ran A
  refused : Refusal → Ran A

abbrev pub run : {A : Type 0} → Rule A → State → Ran A
run (done a) s = accepted a s
run (refuse r) s = refused r
run (read k n f) s = run (f (get k s n)) s
run (write k n v r) s = run r (put k n v s)
