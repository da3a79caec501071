-- What a write of one item leaves of the others, by one law for each region and one for each kind.
use Rattle.std.specs.Prelude.{if◌then◌else◌}
use Prim.Native.Nat.{ℕ, suc}
use mathlib.Core.Path.{◌≡◌, refl, sym, ap, ◌∙◌, subst, subst_refl}
use mathlib.Core.Bool.{Bool, true, false, ◌&&◌}
use mathlib.Core.List.{List}
use native.Mathlib.Decide.{ℕ_discrete}
use lib.Dec.{eqb, eqb-suc-suc}
use lib.ListN.{length, get_or, length-set, length-map, get_or-map}
use lib.Seq.{ext_get_or}
use borrow.Author.Tests.{eqb-true, eq-eqb, ne_eqb}
use Rattle.rules.specs.Lists.{within}
use Rattle.rules.specs.State.{Ends, Channel, State, Wiring, wiring}
use Rattle.rules.specs.Items.{
  Region,
  cores,
  processes,
  channels,
  Region_discrete,
  Record,
  no_core,
  no_process,
  no_channel,
  record_of,
  with_record,
  Kind,
  core,
  place,
  data_word,
  alternation,
  progress,
  channel_word,
  transfers,
  Kind_discrete,
  region,
  Val,
  field,
  with_field,
  get,
  put,
}
use Rattle.rules.proofs.Nth.{length_set_nth, map_set_nth, nth_set}

-- Records

-- there is a core, process or channel of that number; cores are counted from 0, processes and channels from 1
abbrev pub there : Wiring → Region → ℕ → Bool
there w cores k = within 1 w.K (suc k)
there w processes p = within 1 w.N p
there w channels c = within 1 (length w.ends) c

-- what of a record no write changes
abbrev Fixed : Region → Type 0
Fixed cores = Unit {0}
Fixed processes = Unit {0}
Fixed channels = Ends

abbrev fixed : (g : Region) → Record g → Fixed g
fixed cores r = tt
fixed processes r = tt
fixed channels r = r.ends

-- a record by that and the values of its items
abbrev built : (g : Region) → Fixed g → ((k : Kind) → Val k) → Record g
built cores x f = f core
built processes x f = record { place = f place; data_word = f data_word; alternation = f alternation; progress = f progress }
built channels x f = record { ends = x; word = f channel_word; transfers = f transfers }

-- one thing where something holds, otherwise another
abbrev chosen : {P A : Type 0} → Dec P → A → A → A
chosen (yes p) a b = a
chosen (no q) a b = b

-- the state whose regions are each of a state of its own
abbrev mixed : (Region → State) → State
mixed t = record { cores = (t cores).cores; processes = (t processes).processes; channels = (t channels).channels }

-- what holds of a region, whatever the others are
record RegionLaw (g : Region) : Type 1 where
  -- its records are those of the state that it is of
  reads : (t : Region → State) (n : ℕ) → record_of g (mixed t) n ≡ record_of g (t g) n
  -- another record leaves the other regions
  writes : (n : ℕ) (r : Record g) (s : State) → with_record g n r s ≡ mixed (λ h. chosen (Region_discrete g h) (with_record g n r s) s)
  -- what stands at m once the n-th is another: that one where m is n and there is an n-th, otherwise what stood there
  sets : {A : Type 0} (f : Record g → A) (n m : ℕ) (r : Record g) (s : State)
      → f (record_of g (with_record g n r s) m) ≡ (if eqb n m && there (wiring s) g n then f r else f (record_of g s m))
  -- a record with the same fixed part leaves the wiring
  wires : (n : ℕ) (r : Record g) (s : State) → fixed g r ≡ fixed g (record_of g s n) → wiring (with_record g n r s) ≡ wiring s
  -- a record has its fixed part and the values of its items
  builds : (n : ℕ) (s : State) → record_of g s n ≡ built g (fixed g (record_of g s n)) (λ k. get k s n)

-- a state's wiring with other ends
abbrev with_ends : State → List Ends → Wiring
with_ends s ends = record { K = length s.cores; N = length s.processes; ends = ends }

region_law : (g : Region) → RegionLaw g
region_law cores = record {
  reads = λ t n. refl;
  writes = λ n r s. refl;
  sets = λ f n m r s. rw (← eqb-suc-suc n m) (nth_set f s.cores (suc n) (suc m) r no_core);
  wires = λ n r s e. rw length-set;
  builds = λ n s. refl;
}
region_law processes = record {
  reads = λ t n. refl;
  writes = λ n r s. refl;
  sets = λ f n m r s. nth_set f s.processes n m r no_process;
  wires = λ n r s e. rw length_set_nth;
  builds = λ n s. refl;
}
region_law channels = record {
  reads = λ t n. refl;
  writes = λ n r s. refl;
  sets = λ f n m r s. rw length-map (nth_set f s.channels n m r no_channel);
  wires = λ n r s e. ap (with_ends s) (map_set_nth (λ (c : Channel). c.ends) s.channels n r no_channel e);
  builds = λ n s. refl;
}

-- Items

-- the values f, but v for kind k
abbrev but : (k : Kind) → Val k → ((j : Kind) → Val j) → (j : Kind) → Val j
but k v f j = elim (Kind_discrete k j) [ yes same ↦ subst Val same v | no other ↦ f j ]

-- what holds of a kind, whatever the others are
record KindLaw (k : Kind) : Type 0 where
  -- a record has the value that it is built with
  reads : (x : Fixed (region k)) (f : (j : Kind) → Val j) → field k (built (region k) x f) ≡ f k
  -- another value leaves the others
  writes : (v : Val k) (n : ℕ) (s : State)
      → with_field k v (record_of (region k) s n) ≡ built (region k) (fixed (region k) (record_of (region k) s n)) (but k v (λ j. get j s n))
  -- it is read where it is written
  own : (v : Val k) (r : Record (region k)) → field k (with_field k v r) ≡ v
  -- and leaves what is fixed
  fixes : (v : Val k) (r : Record (region k)) → fixed (region k) (with_field k v r) ≡ fixed (region k) r

kind_law : (k : Kind) → KindLaw k
kind_law core = record { reads = λ x f. refl; writes = λ v n s. sym (subst_refl Val {x = core} v); own = λ v r. refl; fixes = λ v r. refl }
kind_law place = record { reads = λ x f. refl; writes = λ v n s. refl; own = λ v r. refl; fixes = λ v r. refl }
kind_law data_word = record { reads = λ x f. refl; writes = λ v n s. refl; own = λ v r. refl; fixes = λ v r. refl }
kind_law alternation = record { reads = λ x f. refl; writes = λ v n s. refl; own = λ v r. refl; fixes = λ v r. refl }
kind_law progress = record { reads = λ x f. refl; writes = λ v n s. refl; own = λ v r. refl; fixes = λ v r. refl }
kind_law channel_word = record { reads = λ x f. refl; writes = λ v n s. refl; own = λ v r. refl; fixes = λ v r. refl }
kind_law transfers = record { reads = λ x f. refl; writes = λ v n s. refl; own = λ v r. refl; fixes = λ v r. refl }

-- an item of the kind written to: what was written where it is that item and there is such an item, otherwise what it had
pub put_kind : (k : Kind) (n m : ℕ) (v : Val k) (s : State)
    → get k (put k n v s) m ≡ (if eqb n m && there (wiring s) (region k) n then v else get k s m)
put_kind k n m v s = rw ((region_law (region k)).sets (field k) n m _ s, (kind_law k).own v _)

-- another record leaves what f reads of each, if it leaves that of its own number
record_kept : (g : Region) {A : Type 0} (f : Record g → A) (n m : ℕ) (r : Record g) (s : State) → f r ≡ f (record_of g s n)
    → f (record_of g (with_record g n r s) m) ≡ f (record_of g s m)
record_kept g f n m r s e = (region_law g).sets f n m r s ∙ go (eqb n m) (there (wiring s) g n) refl
  where
    go : (b c : Bool) → eqb n m ≡ b → (if b && c then f r else f (record_of g s m)) ≡ f (record_of g s m)
    go true true h = e ∙ ap (λ i. f (record_of g s i)) (eqb-true n m h)
    go true false h = refl
    go false c h = refl

-- another record leaves the records of another region
region_kept : (g h : Region) (n m : ℕ) (r : Record g) (s : State) → (g ≡ h → ⊥) → record_of h (with_record g n r s) m ≡ record_of h s m
region_kept g h n m r s apart =
    let t : Region → State = λ i. chosen (Region_discrete g i) (with_record g n r s) s in
    ap (λ u. record_of h u m) ((region_law g).writes n r s) ∙ (region_law h).reads t m ∙ ap (λ u. record_of h u m) (go (Region_discrete g h))
  where
    go : (d : Dec (g ≡ h)) → chosen d (with_record g n r s) s ≡ s
    go (yes p) = absurd (apart p)
    go (no q) = refl

-- a record that is built with the value that an item had leaves that item
built_kept : (j : Kind) (g : Region) (x : Fixed g) (f : (k : Kind) → Val k) (n m : ℕ) (s : State) → f j ≡ get j s n
    → get j (with_record g n (built g x f) s) m ≡ get j s m
built_kept j g x f n m s e = go (Region_discrete (region j) g)
  where
    own : (x : Fixed (region j)) → get j (with_record (region j) n (built (region j) x f) s) m ≡ get j s m
    own x = record_kept (region j) (field j) n m (built (region j) x f) s ((kind_law j).reads x f ∙ e)

    go : Dec (region j ≡ g) → get j (with_record g n (built g x f) s) m ≡ get j s m
    go (yes p) = subst (λ h. (x : Fixed h) → get j (with_record h n (built h x f) s) m ≡ get j s m) p own x
    go (no q) = ap (field j) (region_kept g (region j) n m (built g x f) s (λ p. q (sym p)))

-- a write leaves the items of another kind
put_kinds : (k j : Kind) (n m : ℕ) (v : Val k) (s : State) → (k ≡ j → ⊥) → get j (put k n v s) m ≡ get j s m
put_kinds k j n m v s apart =
    rw ((kind_law k).writes v n s) (built_kept j (region k) _ (but k v (λ i. get i s n)) n m s (go (Kind_discrete k j)))
  where
    go : (d : Dec (k ≡ j)) → (elim d as (λ _. Val j) [ yes same ↦ subst Val same v | no other ↦ get j s n ]) ≡ get j s n
    go (yes p) = absurd (apart p)
    go (no q) = refl

-- a write leaves every item but its own
pub put_other : (k j : Kind) (n m : ℕ) (v : Val k) (s : State) → ((k ≡ j) × (n ≡ m) → ⊥) → get j (put k n v s) m ≡ get j s m
put_other k j n m v s h = go (Kind_discrete k j)
  where
    go : Dec (k ≡ j) → get j (put k n v s) m ≡ get j s m
    go (yes p) = subst (λ (i : Kind). get i (put k n v s) m ≡ get i s m) p (rw (put_kind, ne_eqb n m (λ q. h (p, q))) refl)
    go (no q) = put_kinds k j n m v s q

-- two items are the same or not
pub same_item : (k j : Kind) (n m : ℕ) → Dec ((k ≡ j) × (n ≡ m))
same_item k j n m = go (Kind_discrete k j) (ℕ_discrete n m)
  where
    go : Dec (k ≡ j) → Dec (n ≡ m) → Dec ((k ≡ j) × (n ≡ m))
    go (yes p) (yes q) = yes (p, q)
    go (yes p) (no q) = no (λ e. q e.1)
    go (no p) d = no (λ e. p e.0)

-- an item that is there has what was written to it
pub put_own : (k : Kind) (n : ℕ) (v : Val k) (s : State) → there (wiring s) (region k) n ≡ true → get k (put k n v s) n ≡ v
put_own k n v s h = rw (put_kind, eq-eqb n n refl, h)

-- a write leaves the wiring
pub put_wiring : (k : Kind) (n : ℕ) (v : Val k) (s : State) → wiring (put k n v s) ≡ wiring s
put_wiring k n v s = (region_law (region k)).wires n _ s ((kind_law k).fixes v _)

-- two states with one wiring that agree on every item are equal
pub same_state : (s t : State) → wiring s ≡ wiring t → ((k : Kind) (n : ℕ) → get k s n ≡ get k t n) → s ≡ t
same_state s t w e = λ x. record { cores = cores_same x; processes = processes_same x; channels = channels_same x }
  where
    ends_same : (i : ℕ) → (get_or s.channels i no_channel).ends ≡ (get_or t.channels i no_channel).ends
    ends_same i =
        sym (get_or-map (λ (c : Channel). c.ends) s.channels i no_channel) ∙ ap (λ v. get_or v.ends i no_channel.ends) w
        ∙ get_or-map (λ (c : Channel). c.ends) t.channels i no_channel

    record_same : (g : Region) (n : ℕ) → fixed g (record_of g s n) ≡ fixed g (record_of g t n) → record_of g s n ≡ record_of g t n
    record_same g n p = (region_law g).builds n s ∙ (λ x. built g (p x) (λ k. e k n x)) ∙ sym ((region_law g).builds n t)

    cores_same : s.cores ≡ t.cores
    cores_same = ext_get_or no_core s.cores t.cores (ap (λ v. v.K) w) (λ i h. record_same cores i refl)

    processes_same : s.processes ≡ t.processes
    processes_same = ext_get_or no_process s.processes t.processes (ap (λ v. v.N) w) (λ i h. record_same processes (suc i) refl)

    channels_same : s.channels ≡ t.channels
    channels_same =
        ext_get_or no_channel s.channels t.channels (simp length-map at (ap (λ v. length v.ends) w))
        (λ i h. record_same channels (suc i) (ends_same i))
