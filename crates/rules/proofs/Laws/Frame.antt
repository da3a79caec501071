-- A rule keeps to its items: where two states agree on them it does the same in both, and it changes no other item. So two rules
-- that have no item in common come to the same in either order.
use Prim.Native.Nat.{ℕ}
use mathlib.Core.Path.{◌≡◌, refl, sym, ap, ◌∙◌, subst, subst₂}
use mathlib.Core.Logic.{◌⊎◌, inl, inr}
use Rattle.rules.specs.Numbers.{Refusal}
use Rattle.rules.specs.State.{State, Wiring, wiring}
use Rattle.rules.specs.Items.{Kind, Val, get, put}
use Rattle.rules.specs.Rule.{Rule, done, refuse, read, write, Ran, accepted, refused, run}
use Rattle.rules.proofs.Laws.Items.{put_kind, put_other, same_item, put_wiring, same_state}

-- each item that the rule reads or writes on its way from s is in P
abbrev pub Within : {A : Type 0} → (Kind → ℕ → Type 0) → Rule A → State → Type 0
Within P (done a) s = Unit {0}
Within P (refuse w) s = Unit {0}
Within P (read k n f) s = P k n × Within P (f (get k s n)) s
Within P (write k n v r) s = P k n × Within P r (put k n v s)

-- two states have one wiring and agree on the items in P
pub record Agree (P : Kind → ℕ → Type 0) (s t : State) : Type 0 where
  pub wired : wiring s ≡ wiring t
  pub alike : (k : Kind) (n : ℕ) → P k n → get k s n ≡ get k t n

-- each item is in P, or has in t what it has in s
abbrev pub Keeps : (Kind → ℕ → Type 0) → State → State → Type 0
Keeps P s t = (k : Kind) (n : ℕ) → P k n ⊎ (get k s n ≡ get k t n)

-- what a rule comes to has the wiring w, if the rule is accepted
abbrev pub HasWiring : {A : Type 0} → Wiring → Ran A → Type 0
HasWiring w (accepted a t) = wiring t ≡ w
HasWiring w (refused why) = Unit {0}

-- a rule leaves the wiring
pub run_wiring : {A : Type 0} (r : Rule A) (s : State) → HasWiring (wiring s) (run r s)
run_wiring (done a) s = refl
run_wiring (refuse w) s = tt
run_wiring (read k n f) s = run_wiring (f (get k s n)) s
run_wiring (write k n v r) s = subst (λ w. HasWiring w (run r (put k n v s))) (put_wiring k n v s) (run_wiring r (put k n v s))

module _ (P : Kind → ℕ → Type 0) where
  -- A rule that comes from s to a and s' follows it from t: it is accepted with the same answer and the same values in P, and changes
  -- only items in P.
  pub record Follows {A : Type 0} (s t : State) (a : A) (s' : State) (ran : Ran A) : Type 0 where
    pub end : State
    pub comes_to : ran ≡ accepted a end
    pub agrees : Agree P s' end
    pub keeps : Keeps P s s'
    pub keeps_too : Keeps P t end

  -- What a rule comes to from s, and what it comes to from t: a refusal is the same.
  abbrev pub Alike : {A : Type 0} → State → State → Ran A → Ran A → Type 0
  Alike s t (accepted a s') ran = Follows s t a s' ran
  Alike s t (refused w) ran = ran ≡ refused w

  -- one write in two states that agree
  agree_put : (k : Kind) (n : ℕ) (v : Val k) (s t : State) → P k n → Agree P s t → Agree P (put k n v s) (put k n v t)
  agree_put k n v s t h e = record { wired = put_wiring k n v s ∙ e.wired ∙ sym (put_wiring k n v t); alike = λ j m g. go j m g (same_item k j n m) }
    where
      own : get k (put k n v s) n ≡ get k (put k n v t) n
      own = rw (put_kind k n n v s, put_kind k n n v t, e.wired, e.alike k n h)

      go : (j : Kind) (m : ℕ) → P j m → Dec ((k ≡ j) × (n ≡ m)) → get j (put k n v s) m ≡ get j (put k n v t) m
      go j m g (yes p) = subst₂ (λ (i : Kind) (x : ℕ). get i (put k n v s) x ≡ get i (put k n v t) x) p.0 p.1 own
      go j m g (no q) = rw (put_other k j n m v s q, put_other k j n m v t q) (e.alike j m g)

  -- a write to an item in P leaves the others
  keeps_put : (k : Kind) (n : ℕ) (v : Val k) (s : State) → P k n → Keeps P s (put k n v s)
  keeps_put k n v s h j m = go (same_item k j n m)
    where
      go : Dec ((k ≡ j) × (n ≡ m)) → P j m ⊎ (get j s m ≡ get j (put k n v s) m)
      go (yes p) = inl (subst₂ P p.0 p.1 h)
      go (no q) = inr (sym (put_other k j n m v s q))

  -- what is kept twice is kept
  keeps_trans : (s t u : State) → Keeps P s t → Keeps P t u → Keeps P s u
  keeps_trans s t u e f k n = go (e k n) (f k n)
    where
      go : P k n ⊎ (get k s n ≡ get k t n) → P k n ⊎ (get k t n ≡ get k u n) → P k n ⊎ (get k s n ≡ get k u n)
      go (inl h) y = inl h
      go (inr p) (inl h) = inl h
      go (inr p) (inr q) = inr (p ∙ q)

  -- a rule that goes on from states that kept the items outside P
  alike_from : {A : Type 0} (s t s₁ t₁ : State) (x y : Ran A) → Keeps P s s₁ → Keeps P t t₁ → Alike s₁ t₁ x y → Alike s t x y
  alike_from s t s₁ t₁ (refused w) y e f a = a
  alike_from s t s₁ t₁ (accepted b s') y e f a =
      record {
        end = a.end;
        comes_to = a.comes_to;
        agrees = a.agrees;
        keeps = keeps_trans s s₁ s' e a.keeps;
        keeps_too = keeps_trans t t₁ a.end f a.keeps_too;
      }

  -- a rule within P does the same in two states that agree on P, and changes nothing outside P
  pub frame : {A : Type 0} (r : Rule A) (s t : State) → Within P r s → Agree P s t → Alike s t (run r s) (run r t)
  frame (done a) s t w e = record { end = t; comes_to = refl; agrees = e; keeps = λ k n. inr refl; keeps_too = λ k n. inr refl }
  frame (refuse why) s t w e = refl
  frame (read k n f) s t w e = subst (λ x. Alike s t (run (f (get k s n)) s) (run (f x) t)) (e.alike k n w.0) (frame (f (get k s n)) s t w.1 e)
  frame (write k n v r) s t w e =
      alike_from s t (put k n v s) (put k n v t) (run r (put k n v s)) (run r (put k n v t)) (keeps_put k n v s w.0) (keeps_put k n v t w.0)
      (frame r (put k n v s) (put k n v t) w.1 (agree_put k n v s t w.0 e))

  -- an accepted rule within P changes nothing outside P
  pub run_keeps : {A : Type 0} (r : Rule A) (s t : State) (a : A) → Within P r s → run r s ≡ accepted a t → Keeps P s t
  run_keeps r s t a w e =
      (subst (λ x. Alike s s x (run r s)) e (frame r s s w (record { wired = refl; alike = λ k n h. refl }))).keeps

-- an accepted rule leaves the wiring
pub accepted_wiring : {A : Type 0} (r : Rule A) (s t : State) (a : A) → run r s ≡ accepted a t → wiring t ≡ wiring s
accepted_wiring r s t a e = subst (HasWiring (wiring s)) e (run_wiring r s)

-- Either order

-- two sets of items have nothing in common
abbrev pub Disjoint : (P Q : Kind → ℕ → Type 0) → Type 0
Disjoint P Q = (k : Kind) (n : ℕ) → P k n → Q k n → ⊥

-- After an accepted rule, a rule that has no item in common with it comes to what it came to before, also where it is taken anew at
-- the wiring of the state that it meets.
after : {A B : Type 0} {P Q : Kind → ℕ → Type 0} (r : Rule A) (q : Wiring → Rule B) (s t : State) (a : A) (y : Ran B)
    → Disjoint P Q → Within P r s → Within Q (q (wiring s)) s → run r s ≡ accepted a t → run (q (wiring s)) s ≡ y
    → Alike Q s t y (run (q (wiring t)) t)
after {P = P} {Q = Q} r q s t a y apart in_P in_Q e f =
    subst₂ (λ z w. Alike Q s t z (run (q w) t)) f (sym (accepted_wiring r s t a e))
    (frame Q (q (wiring s)) s t in_Q (record { wired = sym (accepted_wiring r s t a e); alike = λ k n h. go k n h (run_keeps P r s t a in_P e k n) }))
  where
    go : (k : Kind) (n : ℕ) → Q k n → P k n ⊎ (get k s n ≡ get k t n) → get k s n ≡ get k t n
    go k n h (inl g) = absurd (apart k n g h)
    go k n h (inr p) = p

-- Where one rule goes from s to t and another, with no item in common, from s to u, each comes to the same end after the other.
one_end : {A B : Type 0} {P Q : Kind → ℕ → Type 0} {s t u : State} {a : A} {b : B} {x : Ran A} {y : Ran B}
    → Disjoint P Q → wiring t ≡ wiring u → (first : Follows P s u a t x) (second : Follows Q s t b u y) → first.end ≡ second.end
one_end {P = P} {Q = Q} {s = s} {t = t} {u = u} apart w first second =
    same_state first.end second.end (sym first.agrees.wired ∙ w ∙ second.agrees.wired)
    (λ k n. go k n (second.keeps_too k n) (first.keeps_too k n) (first.keeps k n) (second.keeps k n))
  where
    go : (k : Kind) (n : ℕ)
        → Q k n ⊎ (get k t n ≡ get k second.end n) → P k n ⊎ (get k u n ≡ get k first.end n)
        → P k n ⊎ (get k s n ≡ get k t n) → Q k n ⊎ (get k s n ≡ get k u n)
        → get k first.end n ≡ get k second.end n
    go k n (inl g) (inl h) p q = absurd (apart k n h g)
    go k n (inl g) (inr e) p q = sym e ∙ second.agrees.alike k n g
    go k n (inr f) (inl h) p q = sym (first.agrees.alike k n h) ∙ f
    go k n (inr f) (inr e) (inl h) q = sym (first.agrees.alike k n h) ∙ f
    go k n (inr f) (inr e) (inr p) (inl g) = sym e ∙ second.agrees.alike k n g
    go k n (inr f) (inr e) (inr p) (inr q) = sym e ∙ sym q ∙ p ∙ f

-- Two rules that are taken at the wiring of the state that they meet.
module _ {A B : Type 0} (r : Wiring → Rule A) (q : Wiring → Rule B) where
  -- What the rules come to from s, and then each after the other: the same answers or refusals, and one state at the end. (A refusal
  -- writes nothing, so the rule after it meets s again.)
  pub data EitherWay (s : State) : Ran A → Ran B → Type 0 where
    both_accepted : {a : A} {b : B} {t u : State} (end : State)
        → wiring t ≡ wiring s → wiring u ≡ wiring s → run (q (wiring t)) t ≡ accepted b end → run (r (wiring u)) u ≡ accepted a end
        → EitherWay s (accepted a t) (accepted b u)
    first_refused : {why : Refusal} {b : B} {u : State}
        → wiring u ≡ wiring s → run (r (wiring u)) u ≡ refused why → EitherWay s (refused why) (accepted b u)
    second_refused : {a : A} {t : State} {why : Refusal}
        → wiring t ≡ wiring s → run (q (wiring t)) t ≡ refused why → EitherWay s (accepted a t) (refused why)
    both_refused : {why why' : Refusal} → EitherWay s (refused why) (refused why')

  -- two rules that have no item in common come to the same in either order
  pub either_way : (P Q : Kind → ℕ → Type 0) (s : State) → Disjoint P Q → Within P (r (wiring s)) s → Within Q (q (wiring s)) s
      → EitherWay s (run (r (wiring s)) s) (run (q (wiring s)) s)
  either_way P Q s apart in_P in_Q = go (run (r (wiring s)) s) (run (q (wiring s)) s) refl refl
    where
      apart_too : Disjoint Q P
      apart_too k n g h = apart k n h g

      go : (x : Ran A) (y : Ran B) → run (r (wiring s)) s ≡ x → run (q (wiring s)) s ≡ y → EitherWay s x y
      go (accepted a t) (accepted b u) e f =
          let first = after (q (wiring s)) r s u b (accepted a t) apart_too in_Q in_P f e in
          let second = after (r (wiring s)) q s t a (accepted b u) apart in_P in_Q e f in
          let at_t = accepted_wiring (r (wiring s)) s t a e in
          let at_u = accepted_wiring (q (wiring s)) s u b f in
          both_accepted second.end at_t at_u second.comes_to (first.comes_to ∙ ap (accepted a) (one_end apart (at_t ∙ sym at_u) first second))
      go (accepted a t) (refused why) e f =
          second_refused (accepted_wiring (r (wiring s)) s t a e) (after (r (wiring s)) q s t a (refused why) apart in_P in_Q e f)
      go (refused why) (accepted b u) e f =
          first_refused (accepted_wiring (q (wiring s)) s u b f) (after (q (wiring s)) r s u b (refused why) apart_too in_Q in_P f e)
      go (refused why) (refused why') e f = both_refused
