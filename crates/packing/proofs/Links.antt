-- A packing while a core's words and the links of processes are written: what it holds, and when it is the packing of the state with
-- another core. Each link is a sum over the cores, so another core changes it by that core's share alone.
use Rattle.std.specs.Prelude.{if◌then◌else◌}
use Prim.Native.Nat.{ℕ, zero, suc, ◌+◌, ◌-◌, ◌≤◌, ◌<◌}
use mathlib.Core.Path.{◌≡◌, refl, sym, ap, ◌∙◌, subst}
use mathlib.Core.Bool.{Bool, true, false, ◌&&◌}
use mathlib.Core.List.{List, [], ◌∷◌, ◌++◌}
use native.Mathlib.Omega.{arith}
use lib.Dec.{T, eqb, ltb, leb, leb→le, ltb→lt}
use lib.ListN.{length, get_or, set}
use lib.Seq.{get_or-set_same, get_or-set_other, set-get_or}
use borrow.Author.Tests.{eqb-true, eqb-false, leb-false, ltb-false}
use Rattle.rules.specs.Lists.{total, bit, times, first, last, follows}
use Rattle.rules.specs.State.{Process, Core, queues_of, State}
use Rattle.rules.specs.Items.{cores, core_of, process_of, no_core, put, core}
use Rattle.rules.specs.Layout.{core_stride, process_stride, core_at, process_at, channel_at, room, core_first, core_spare, process_next, process_last, process_size, process_next_head, process_spare, links_size}
use Rattle.rules.specs.Packing.{heads, spare, if_head, next_link, head_link, batch_link, core_words, process_words, work_words, pack}
use Rattle.rules.specs.Soundness.{in_queues}
use Rattle.packing.specs.Queues.{link_end, with_queues}
use Rattle.rules.proofs.Packing.Regions.{Dims, Words, Holds}
use Rattle.rules.proofs.Packing.Blocks.{dims, words_of, pack_holds, length_progress_words, first_part, second_part}
use Rattle.rules.proofs.Packing.Reading.{link_words, rest_words}
use Rattle.packing.proofs.ReadLaws.{own_words, process_split, listed, core_list, core_listed}
use Rattle.rules.proofs.Tests.{by_test, same_test, apart, here_or_there, both, together}
use Rattle.packing.proofs.States.{dims_record, packed, same_header}
use Rattle.packing.proofs.Focus.{written, holds_set, writes, below, focus, focus_writes, length_writes, focus_start, holds_same}
use Rattle.rules.proofs.Sums.{total_set, total_alone}
use Rattle.rules.proofs.QueueLists.{no_next, no_head, no_next_head}

-- Links as words of processes

-- the word f is a link
abbrev is_link : ℕ → Bool
is_link f = leb process_next f && ltb f process_spare

-- the words w, but the word f of process p is L f p where it is a link
abbrev with_links : (ℕ → ℕ → ℕ) → Words → Words
with_links L w =
    record { header = w.header; core = w.core; process = λ p f. if is_link f then L f p else w.process p f; channel = w.channel }

-- L with v for the word f of process p
abbrev pub write_link : ℕ → ℕ → ℕ → (ℕ → ℕ → ℕ) → ℕ → ℕ → ℕ
write_link f p v L g i = if eqb g f then (if eqb i p then v else L g i) else L g i

-- the links of a state
abbrev pub links_of : State → ℕ → ℕ → ℕ
links_of s f p = get_or (link_words s p) (f - process_next) 0

-- how many words a process has of its own
length_own_words : (s : State) (p : ℕ) → length (own_words (process_of s p)) ≡ process_next
length_own_words s p = omega (arith, length_progress_words (process_of s p).progress)

-- a process's words are its own, then its links and what is left
own_word : (s : State) (p f : ℕ) → f < process_next → get_or (process_words s p) f 0 ≡ get_or (own_words (process_of s p)) f 0
own_word s p f h =
    ap (λ (l : List ℕ). get_or l f 0) (process_split s p)
    ∙ first_part (own_words (process_of s p)) (rest_words s p) process_next f (length_own_words s p) h

rest_word : (s : State) (p f : ℕ) → process_next ≤ f → get_or (process_words s p) f 0 ≡ get_or (rest_words s p) (f - process_next) 0
rest_word s p f h =
    let e : f ≡ process_next + (f - process_next) = omega arith in
    ap (λ (l : List ℕ). get_or l f 0) (process_split s p)
    ∙ ap (λ (i : ℕ). get_or (own_words (process_of s p) ++ rest_words s p) i 0) e
    ∙ second_part (own_words (process_of s p)) (rest_words s p) process_next (f - process_next) (length_own_words s p)

link_word : (s : State) (p f : ℕ) → process_next ≤ f → f < process_spare → get_or (process_words s p) f 0 ≡ links_of s f p
link_word s p f h b =
    rest_word s p f h ∙ first_part (link_words s p) (spare process_stride process_spare) links_size (f - process_next) refl (omega arith)

spare_word : (s : State) (p f : ℕ) → process_spare ≤ f
    → get_or (process_words s p) f 0 ≡ get_or (spare process_stride process_spare) (f - process_spare) 0
spare_word s p f h =
    let e : f - process_next ≡ links_size + (f - process_spare) = omega arith in
    rest_word s p f (omega arith)
    ∙ ap (λ (i : ℕ). get_or (rest_words s p) i 0) e
    ∙ second_part (link_words s p) (spare process_stride process_spare) links_size (f - process_spare) refl

-- a word that is no link stays where only links change
unlinked_word : (s s' : State) (p f : ℕ) → process_of s p ≡ process_of s' p → is_link f ≡ false
    → get_or (process_words s p) f 0 ≡ get_or (process_words s' p) f 0
unlinked_word s s' p f same e = cases (leb process_next f) refl e
  where
    cases : (x : Bool) → leb process_next f ≡ x → (x && ltb f process_spare) ≡ false → get_or (process_words s p) f 0 ≡ get_or (process_words s' p) f 0
    cases true q e = let b : process_spare ≤ f = ltb-false f process_spare e in spare_word s p f b ∙ sym (spare_word s' p f b)
    cases false q e =
        let b : f < process_next = leb-false process_next f q in
        own_word s p f b ∙ ap (λ (r : Process). get_or (own_words r) f 0) same ∙ sym (own_word s' p f b)

-- what the test of a link says
link_range : (f : ℕ) → T (is_link f) → (process_next ≤ f) × (f < process_spare)
link_range f h =
    let b = both (leb process_next f) (ltb f process_spare) h in (leb→le process_next f b.0, ltb→lt f process_spare b.1)

-- one link is written
link_set : (d : Dims) (w : Words) (L : ℕ → ℕ → ℕ) (p f v : ℕ) (t : List ℕ) → 1 ≤ p → p ≤ d.N
    → T (is_link f) → process_next ≤ f → f < process_spare
    → Holds d (with_links L w) t → Holds d (with_links (write_link f p v L) w) (set t (process_at d.K p f) v)
link_set d w L p f v t low high is from to held =
    holds_same d (written d a v (with_links L w)) (with_links (write_link f p v L) w) (set t a v)
    (record {
      header = λ g b. apart g a v _ (λ e. omega arith);
      core = λ i g b b'. apart (core_at i g) a v _ (λ e. omega arith);
      process = λ i g low' b b'. cases i g low' b' (is_link g) refl (eqb g f) refl;
      channel = λ i g low' b b'. apart (channel_at d.K d.N i g) a v _ (λ e. omega arith);
    })
    (holds_set d (with_links L w) t a v held (let e : length t ≡ room d.K d.N d.M = held.size in omega arith))
  where
    a : ℕ
    a = process_at d.K p f

    cases : (i g : ℕ) → 1 ≤ i → g < process_stride → (x : Bool) → is_link g ≡ x → (y : Bool) → eqb g f ≡ y
        → (if eqb (process_at d.K i g) a then v else (if x then L g i else w.process i g))
        ≡ (if x then (if y then (if eqb i p then v else L g i) else L g i) else w.process i g)
    cases i g low' b false e y e' =
        apart (process_at d.K i g) a v _
        (λ q. let same : g ≡ f = omega arith in subst T (sym (ap is_link same) ∙ e) is)
    cases i g low' b true e true e' =
        let q : g ≡ f = eqb-true g f e' in
        ap (λ (x : Bool). if x then v else L g i) (same_test (process_at d.K i g) a i p (λ z. omega arith) (λ z. omega arith))
    cases i g low' b true e false e' = apart (process_at d.K i g) a v _ (λ q. eqb-false g f e' (omega arith))

-- Writing a core and links

-- the table t holds the words of s, but the words l for core k and the links L
pub record Held (s : State) (k : ℕ) (l : List ℕ) (L : ℕ → ℕ → ℕ) (t : List ℕ) : Type 0 where
  pub size : length l ≡ core_stride
  pub held : Holds (dims s) (with_links L (focus cores k l (words_of s))) t

module _ (s : State) (k : ℕ) (inside : k < length s.cores) where
  -- the packing of s holds the words of s
  pub held_first : Held s k (core_list (core_of s k)) (links_of s) (pack s)
  held_first =
      record {
        size = refl;
        held =
            holds_same (dims s) (focus cores k (core_list (core_of s k)) (words_of s)) _ (pack s)
            (record {
              header = λ f b. refl;
              core = λ i f b b'. refl;
              process = λ p f low b b'. sym (by_test (is_link f) (λ e. let (from, to) = link_range f (rw e tt) in sym (link_word s p f from to)) (λ e. refl));
              channel = λ i f low b b'. refl;
            })
            (focus_start cores (dims s) (words_of s) k (core_list (core_of s k)) (pack s)
            (λ f. ap (λ (l : List ℕ). get_or l f 0) (core_listed (core_of s k))) (pack_holds s));
      }

  module _ {l : List ℕ} {L : ℕ → ℕ → ℕ} {t : List ℕ} where
    -- several words of the core are written
    pub held_writes : (at : ℕ → ℕ) (ws : List (ℕ × ℕ)) → T (below core_stride at ws)
        → Held s k l L t → Held s k (writes ws at l) L (writes ws (λ f. core_at k (at f)) t)
    held_writes at ws b h =
        record {
          size = length_writes ws at l ∙ h.size;
          held = focus_writes cores (dims s) (with_links L (words_of s)) k at ws l t inside h.size b h.held;
        }

    -- the word f of the core is written
    pub held_core : (f v : ℕ) → T (ltb f core_stride) → Held s k l L t → Held s k (set l f v) L (set t (core_at k f) v)
    held_core f v b h = held_writes (λ j. j) ((f, v) ∷ []) (together (ltb f core_stride) true b tt) h

    -- the link at word f of process p is written
    held_link : (f p v : ℕ) → T (is_link f) → 1 ≤ p → p ≤ length s.processes
        → Held s k l L t → Held s k l (write_link f p v L) (set t (process_at (length s.cores) p f) v)
    held_link f p v b low high h =
        let (from, to) = link_range f b in
        record { size = h.size; held = link_set (dims s) (focus cores k l (words_of s)) L p f v t low high b from to h.held }

  -- there is no process 0 whose link could be written
  held_nobody : (f v : ℕ) {l : List ℕ} {L : ℕ → ℕ → ℕ} {t : List ℕ} → Held s k l L t → Held s k l (write_link f 0 v L) t
  held_nobody f v {l} {L} {t} h =
      record {
        size = h.size;
        held =
            holds_same (dims s) (with_links L (focus cores k l (words_of s))) _ t
            (record {
              header = λ g b. refl;
              core = λ i g b b'. refl;
              process = λ i g low b b'.
                  ap (λ n. if is_link g then n else (words_of s).process i g)
                  (sym (by_test (eqb g f) (λ e. apart i 0 v (L g i) (λ z. omega arith)) (λ e. refl)));
              channel = λ i g low b b'. refl;
            })
            h.held;
      }

  -- process p is linked behind the last one, or first where there is none
  pub held_end : (f g b p : ℕ) {l : List ℕ} {L : ℕ → ℕ → ℕ} {t : List ℕ}
      → T (ltb f core_stride) → T (is_link g) → b ≤ length s.processes → Held s k l L t
      → Held s k (set l f (if eqb b 0 then p else get_or l f 0)) (write_link g b p L) (link_end f g b p t (length s.cores) k)
  held_end f g b p {l} {L} {t} hf hg high h = cases (eqb b 0) refl
    where
      cases : (x : Bool) → eqb b 0 ≡ x
          → Held s k (set l f (if x then p else get_or l f 0)) (write_link g b p L)
          (if x then set t (core_at k f) p else set t (process_at (length s.cores) b g) p)
      cases true e = rw (eqb-true b 0 e) (held_core f p hf (held_nobody g p h))
      cases false e = rw (set-get_or l f 0) (held_link g b p hg (omega (arith, eqb-false b 0 e)) high h)

-- L is the links of s, for the processes 1 to n
pub record Linked (n : ℕ) (L : ℕ → ℕ → ℕ) (s : State) : Type 0 where
  pub next : (p : ℕ) → 1 ≤ p → p ≤ n → L process_next p ≡ next_link s p
  pub batch_last : (p : ℕ) → 1 ≤ p → p ≤ n → L process_last p ≡ head_link last s p
  pub batch_size : (p : ℕ) → 1 ≤ p → p ≤ n → L process_size p ≡ head_link length s p
  pub next_head : (p : ℕ) → 1 ≤ p → p ≤ n → L process_next_head p ≡ batch_link s p

-- so is each of these words
linked_word : (n : ℕ) (L : ℕ → ℕ → ℕ) (s : State) → Linked n L s → (p j : ℕ) → 1 ≤ p → p ≤ n → j < links_size
    → L (process_next + j) p ≡ links_of s (process_next + j) p
linked_word n L s h p zero low high b = h.next p low high
linked_word n L s h p (suc zero) low high b = h.batch_last p low high
linked_word n L s h p (suc (suc zero)) low high b = h.batch_size p low high
linked_word n L s h p (suc (suc (suc zero))) low high b = h.next_head p low high
linked_word n L s h p (suc (suc (suc (suc j)))) low high b = absurd (omega arith)

-- A table that holds the words of another core k and the links of the state with that core is the packing of that state.
pub held_last : (s : State) (k : ℕ) (c : Core) (l : List ℕ) (L : ℕ → ℕ → ℕ) (t : List ℕ) → k < length s.cores → Held s k l L t
    → l ≡ core_list c → Linked (length s.processes) L (put core k c s) → t ≡ pack (put core k c s)
held_last s k c l L t inside h e linked =
    packed s s' _ t (dims_record cores k c s) h.held
    (record {
      header = λ f b. ap (λ (l : List ℕ). get_or l f 0) (same_header s s' (dims_record cores k c s));
      core = λ i f b b'. here_or_there k i _ _ (λ x. get_or (core_words (core_of s' x)) f 0) (λ q. ap (λ (l : List ℕ). get_or l f 0) here)
          (λ ne. ap (λ (x : Core). get_or (core_words x) f 0) (sym (get_or-set_other s.cores k i c no_core ne)));
      process = λ p f low b b'.
          by_test (is_link f) (λ q. link p f low b (link_range f (rw q tt))) (λ q. unlinked_word s s' p f refl q);
      channel = λ i f low b b'. refl;
    })
  where
    s' : State
    s' = put core k c s

    here : l ≡ core_words (core_of s' k)
    here = e ∙ sym (core_listed c) ∙ ap core_words (sym (get_or-set_same s.cores k c no_core inside))

    link : (p f : ℕ) → 1 ≤ p → p ≤ length s.processes → (process_next ≤ f) × (f < process_spare)
        → L f p ≡ get_or (process_words s' p) f 0
    link p f low high (from, to) =
        let q : process_next + (f - process_next) ≡ f = omega arith in
        (rw q at (linked_word (length s.processes) L s' linked p (f - process_next) low high (omega arith))) ∙ sym (link_word s' p f from to)

-- the words of a core with other queues
pub queue_entries : (c : Core) (active : List ℕ) (batches : List (List ℕ)) {a b n h g : ℕ}
    → a ≡ first active → b ≡ last active → n ≡ length active → h ≡ first (heads batches) → g ≡ last (heads batches)
    → listed (work_words c.work) core_first ++ (a ∷ b ∷ n ∷ c.dispatch ∷ bit c.mark ∷ h ∷ g ∷ spare core_stride core_spare)
    ≡ core_list (with_queues active batches c)
queue_entries c active batches e₁ e₂ e₃ e₄ e₅ =
    λ i. listed (work_words c.work) core_first ++ (e₁ i ∷ e₂ i ∷ e₃ i ∷ c.dispatch ∷ bit c.mark ∷ e₄ i ∷ e₅ i ∷ spare core_stride core_spare)

-- A core's share in the links

-- in p's next, in what p keeps of a batch as its head, in the head behind p
abbrev pub next_in : ℕ → Core → ℕ
next_in p c = total (follows p) (queues_of c)

abbrev pub head_in : (List ℕ → ℕ) → ℕ → Core → ℕ
head_in f p c = total (if_head f p) c.run_queue

abbrev pub next_head_in : ℕ → Core → ℕ
next_head_in p c = follows p (heads c.run_queue)

-- and how often p stands in its queues
abbrev pub times_in : ℕ → Core → ℕ
times_in p c = total (times p) (queues_of c)

-- p stands in the queues of core k, once, and nowhere else
pub record Stands (s : State) (k p : ℕ) : Type 0 where
  pub low : 1 ≤ p
  pub high : p ≤ length s.processes
  pub once : in_queues s p ≤ 1
  pub here : 1 ≤ times_in p (core_of s k)
  pub at_most : times_in p (core_of s k) ≤ 1

-- a link of such a process is written
pub held_own : (s : State) (k : ℕ) (inside : k < length s.cores) (f p v : ℕ) {l : List ℕ} {L : ℕ → ℕ → ℕ} {t : List ℕ}
    → T (is_link f) → Stands s k p → Held s k l L t
    → Held s k l (write_link f p v L) (set t (process_at (length s.cores) p f) v)
held_own s k inside f p v b stands h = held_link s k inside f p v b stands.low stands.high h

module _ (s : State) (k : ℕ) (c : Core) (inside : k < length s.cores) where
  -- a sum over the cores keeps its value where the core's share keeps its
  share_kept : (share : Core → ℕ) → share (core_of s k) ≡ share c → total share s.cores ≡ total share (set s.cores k c)
  share_kept share e = omega (arith, total_set share s.cores k c no_core inside, e)

  -- so does each link
  pub next_kept : (p : ℕ) → next_in p (core_of s k) ≡ next_in p c → next_link s p ≡ next_link (put core k c s) p
  unfolding next_link
  next_kept p e = share_kept (next_in p) e

  pub head_kept : (f : List ℕ → ℕ) (p : ℕ) → head_in f p (core_of s k) ≡ head_in f p c → head_link f s p ≡ head_link f (put core k c s) p
  unfolding head_link
  head_kept f p e = share_kept (head_in f p) e

  pub next_head_kept : (p : ℕ) → next_head_in p (core_of s k) ≡ next_head_in p c → batch_link s p ≡ batch_link (put core k c s) p
  unfolding batch_link
  next_head_kept p e = share_kept (next_head_in p) e

  -- a link of a process that stands in the core's queues is the core's share
  module _ (p : ℕ) (stands : Stands s k p) where
    share_alone : (share : Core → ℕ) → ((x : Core) → times_in p x ≡ 0 → share x ≡ 0) → total share (set s.cores k c) ≡ share c
    unfolding in_queues
    share_alone share none = total_alone (times_in p) share s.cores k c no_core none inside stands.once stands.here

    pub next_alone : next_link (put core k c s) p ≡ next_in p c
    unfolding next_link
    next_alone = share_alone (next_in p) (λ x h. no_next p (queues_of x) h)

    pub head_alone : (f : List ℕ → ℕ) → head_link f (put core k c s) p ≡ head_in f p c
    unfolding head_link
    head_alone f = share_alone (head_in f p) (λ x h. no_head f p x.run_queue stands.low (omega arith))

    pub next_head_alone : batch_link (put core k c s) p ≡ next_head_in p c
    unfolding batch_link
    next_head_alone = share_alone (next_head_in p) (λ x h. no_next_head p x.run_queue stands.low (omega arith))
