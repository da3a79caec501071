-- A table that packs a state: what is read of it, and the state that it packs after a write.
use Prim.Native.Nat.{ℕ, ◌+◌, ◌-◌, ◌≤◌, ◌<◌}
use mathlib.Core.Path.{◌≡◌, refl, sym, ap, ◌∙◌, subst, subst₂}
use mathlib.Core.Bool.{Bool, true, false}
use mathlib.Core.List.{List, [], ◌∷◌, ◌++◌}
use native.Mathlib.Omega.{arith}
use lib.Dec.{T, lit<}
use lib.ListN.{length, get_or, set, length-set, replicate}
use Rattle.rules.specs.State.{Place, asleep, Alternation, Progress, nothing, Process, Task, free, ChannelWord, State, wiring}
use Rattle.rules.specs.Items.{Kind, core, place, data_word, alternation, progress, channel_word, transfers, Kind_discrete, Val, core_of, process_of, channel_of, put}
use Rattle.rules.specs.Layout.{core_stride, process_stride, channel_stride, core_at, process_at, channel_at, core_runs, core_task, core_task_process, core_first, process_place, process_data, process_enabling, process_progress, progress_size, channel_holder, channel_transfers}
use Rattle.rules.specs.Packing.{pack, view, place_number, word_number, word_numbered, work_words, progress_words}
use Rattle.rules.specs.Steps.{with_work}
use Rattle.rules.proofs.Laws.Items.{put_other}
use Rattle.packing.proofs.Focus.{writes, below}
use Rattle.packing.proofs.ReadLaws.{listed, core_list, process_list, channel_list, read_core, read_process, read_progress}
use Rattle.packing.proofs.ReadLaws.{read_channel}
use Rattle.packing.proofs.States.{with_process}
use Rattle.rules.proofs.Packing.ViewChannel.{word_back}
use Rattle.rules.proofs.Packing.Reading.{alternation_words, queue_words}
use Rattle.rules.proofs.Nth.{length_set_nth}
use Rattle.packing.proofs.WriteLaws.{put_place, put_data_word, put_alternation, put_progress, on_listed, put_channel_word, put_transfers, put_core}
use Rattle.parts.specs.Does.{Card}
use Rattle.parts.specs.Shared.{task_table, asleep_table, cleared}
use Rattle.parts.proofs.Card.{packed, facts, cores_are, processes_are}
use Rattle.parts.proofs.Rows.{in_row, writes_in_row}

-- the table packs a state of as many cores and processes
pub record Packs (t : List ℕ) (cores processes : ℕ) (s : State) : Type 0 where
  pub is_pack : t ≡ pack s
  pub all_cores : cores ≡ length s.cores
  pub all_processes : processes ≡ length s.processes

-- as a sound table does
pub card_packs : {t : List ℕ} {cores processes k : ℕ} → Card t cores processes k → Packs t cores processes (view t)
card_packs {t} {cores} {processes} {k} card =
    record {
      is_pack = packed t card.is_sound;
      all_cores = cores_are t cores processes k card;
      all_processes = processes_are t cores processes k card;
    }

-- p is a process of the state, and c a channel
abbrev pub IsProcess : State → ℕ → Type 0
IsProcess s p = (1 ≤ p) × (p ≤ length s.processes)

abbrev pub IsChannel : State → ℕ → Type 0
IsChannel s c = (1 ≤ c) × (c ≤ length s.channels)

-- a process is one of the state's after a change of a process
pub still_process : (s : State) (p q : ℕ) (r : Process) → IsProcess s p → IsProcess (with_process q r s) p
still_process s p q r is = (is.0, subst (λ (n : ℕ). p ≤ n) (sym (length_set_nth s.processes q r)) is.1)

-- a change of another item leaves each process's progress
abbrev other : Kind → Bool
other x = elim (Kind_discrete x progress) [ yes same ↦ false | no different ↦ true ]

pub progress_kept : (x : Kind) → T (other x) → (n : ℕ) (v : Val x) (s : State) (p : ℕ)
    → (process_of (put x n v s) p).progress ≡ (process_of s p).progress
progress_kept x h n v s p = put_other x progress n p v s (λ e. subst (λ (y : Kind). T (other y)) e.0 h)

module _ {t : List ℕ} {cores processes : ℕ} {s : State} (packs : Packs t cores processes s) where
  -- what holds of the packing holds of the table
  pub on_pack : (P : List ℕ → ℕ → Type 0) → P (pack s) (length s.cores) → P t cores
  on_pack P h = subst₂ P (sym packs.is_pack) (sym packs.all_cores) h

  pub as_packed : (f : List ℕ → ℕ → List ℕ) {v : List ℕ} → f (pack s) (length s.cores) ≡ v → f t cores ≡ v
  as_packed f {v} = on_pack (λ (u : List ℕ) (n : ℕ). f u n ≡ v)

  -- another table packs another state of as many cores and processes
  pub still : {u : List ℕ} {s' : State} → length s'.cores ≡ length s.cores → length s'.processes ≡ length s.processes → u ≡ pack s'
      → Packs u cores processes s'
  still same_cores same_processes e =
      record { is_pack = e; all_cores = packs.all_cores ∙ sym same_cores; all_processes = packs.all_processes ∙ sym same_processes }

  -- Channels

  module _ (c : ℕ) (is : IsChannel s c) where
    -- a word, as a list's entry that computes
    pub channel_read : (f : ℕ) → f < channel_stride → get_or t (channel_at cores processes c f) 0 ≡ get_or (channel_list (channel_of s c)) f 0
    channel_read f b = rw (packs.is_pack, packs.all_cores, packs.all_processes) (read_channel s c f is.0 is.1 b)

    pub word_written : (w : ChannelWord) → Packs (set t (channel_at cores processes c channel_holder) (word_number w)) cores processes (put channel_word c w s)
    word_written w = still refl refl (rw (packs.is_pack, packs.all_cores, packs.all_processes) (put_channel_word s c is.0 is.1 w))

    pub transfers_written : (n : ℕ) → Packs (set t (channel_at cores processes c channel_transfers) n) cores processes (put transfers c n s)
    transfers_written n = still refl refl (rw (packs.is_pack, packs.all_cores, packs.all_processes) (put_transfers s c is.0 is.1 n))

  -- Processes

  module _ (p : ℕ) (is : IsProcess s p) where
    pub process_read : (f : ℕ) → f < process_stride → get_or t (process_at cores p f) 0 ≡ get_or (process_list s p) f 0
    process_read f b = rw (packs.is_pack, packs.all_cores) (read_process s p f is.0 is.1 b)

    pub progress_read : (f : ℕ) → f < progress_size → get_or t (process_at cores p (process_progress + f)) 0 ≡ get_or (progress_words (process_of s p).progress) f 0
    progress_read f b = rw (packs.is_pack, packs.all_cores) (read_progress s p is.0 is.1 f b)

    pub place_written : (x : Place) → Packs (set t (process_at cores p process_place) (place_number x)) cores processes (put place p x s)
    place_written x = still refl (length_set_nth s.processes p _) (rw (packs.is_pack, packs.all_cores) (put_place s p is.0 is.1 x))

    pub data_written : (v : ℕ) → Packs (set t (process_at cores p process_data) v) cores processes (put data_word p v s)
    data_written v = still refl (length_set_nth s.processes p _) (rw (packs.is_pack, packs.all_cores) (put_data_word s p is.0 is.1 v))

    -- the words of the alternation state
    pub alternation_written : (v : Alternation) (ws : List (ℕ × ℕ)) → T (below (process_progress - process_enabling) (λ j. j) ws)
        → writes ws (λ j. j) (alternation_words (process_of s p).alternation) ≡ alternation_words v
        → Packs (writes ws (λ j. process_at cores p (process_enabling + j)) t) cores processes (put alternation p v s)
    alternation_written v ws b turned =
        still refl (length_set_nth s.processes p _) (rw (packs.is_pack, packs.all_cores) (put_alternation s p is.0 is.1 v ws b turned))

    -- the words of the progress
    pub progress_written : (v : Progress) (ws : List (ℕ × ℕ)) → T (below progress_size (λ j. j) ws)
        → writes ws (λ j. j) (progress_words (process_of s p).progress) ≡ progress_words v
        → Packs (writes ws (λ j. process_at cores p (process_progress + j)) t) cores processes (put progress p v s)
    progress_written v ws b turned =
        still refl (length_set_nth s.processes p _) (rw (packs.is_pack, packs.all_cores) (put_progress s p is.0 is.1 v ws b turned))

    -- they become 0, and then some of them are written
    abbrev zeros : List (ℕ × ℕ)
    zeros = in_row 0 (replicate progress_size 0)

    pub fresh_written : (v : Progress) (ws : List (ℕ × ℕ)) → T (below progress_size (λ j. j) (zeros ++ ws))
        → writes (zeros ++ ws) (λ j. j) (listed (progress_words (process_of s p).progress) progress_size) ≡ progress_words v
        → Packs (writes ws (λ j. process_at cores p (process_progress + j)) (cleared t cores p)) cores processes (put progress p v s)
    unfolding cleared
    fresh_written v ws b turned =
        subst (λ (u : List ℕ). Packs (writes ws (λ j. process_at cores p (process_progress + j)) u) cores processes (put progress p v s))
        (writes_in_row (replicate progress_size 0) 0 (λ j. process_at cores p (process_progress + j)) t (λ j. omega arith))
        (progress_written v (zeros ++ ws) b (on_listed (process_of s p).progress (zeros ++ ws) turned))

    -- nothing in hand
    pub progress_cleared : Packs (cleared t cores p) cores processes (put progress p nothing s)
    unfolding progress_words
    progress_cleared = fresh_written nothing [] tt refl

  -- Cores

  module _ (k : ℕ) (inside : k < length s.cores) where
    pub core_read : (f : ℕ) → f < core_stride → get_or t (core_at k f) 0 ≡ get_or (core_list (core_of s k)) f 0
    core_read f b = rw packs.is_pack (read_core s k f inside b)

    -- a task
    pub task_written : (x : Task) (task q : ℕ) → work_words (free x) ≡ 0 ∷ task ∷ q ∷ []
        → Packs (task_table t k task q) cores processes (put core k (with_work (free x) (core_of s k)) s)
    task_written x task q e =
        still (length-set s.cores k _) refl
        (rw packs.is_pack
        (put_core s k (with_work (free x) (core_of s k)) (λ j. j) ((core_runs, 0) ∷ (core_task, task) ∷ (core_task_process, q) ∷ []) inside tt refl refl
        (ap (λ (l : List ℕ). listed l core_first ++ queue_words (core_of s k)) (sym e))))

-- process p falls asleep, and core k has a task
pub asleep_written : {t : List ℕ} {cores processes : ℕ} {s : State} → Packs t cores processes s → (k : ℕ) → k < length s.cores
    → (p : ℕ) → IsProcess s p → (x : Task) (task q : ℕ) → work_words (free x) ≡ 0 ∷ task ∷ q ∷ []
    → Packs (asleep_table t cores k p task q) cores processes (put core k (with_work (free x) (core_of s k)) (put place p asleep s))
asleep_written packs k inside p is x task q e = task_written (place_written packs p is asleep) k inside x task q e

-- who is found in a channel's word of a sound table stands there
pub who_stands : {t : List ℕ} {cores processes k : ℕ} → Card t cores processes k → (c : ℕ) → IsChannel (view t) c
    → word_numbered (get_or t (channel_at cores processes c channel_holder) 0) ≡ (channel_of (view t) c).word
who_stands {t} card c is =
    ap word_numbered (channel_read (card_packs card) c is channel_holder (lit< tt))
    ∙ word_back (wiring (view t)) (channel_of (view t) c).word ((facts t card.is_sound).channels c is.0 is.1).word
