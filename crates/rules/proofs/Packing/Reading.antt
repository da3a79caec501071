-- The words of a packing where the view reads them: those of the header, of a core's work and queues, of a process's state, progress and
-- links, and of a channel.
use Prim.Native.Nat.{ℕ, ◌+◌, ◌-◌, ◌≤◌, ◌<◌}
use mathlib.Core.Path.{◌≡◌, refl, ap, ◌∙◌}
use mathlib.Core.Bool.{Bool, true, false}
use mathlib.Core.List.{List, [], ◌∷◌, ◌++◌}
use native.Mathlib.Omega.{arith}
use lib.Dec.{eqb, lit<}
use lib.ListN.{length, get_or, get_or-replicate}
use borrow.Author.Tests.{eq-eqb, ne_eqb}
use Rattle.rules.specs.Lists.{bit, first, last}
use Rattle.rules.specs.State.{Alternation, Process, Core, State}
use Rattle.rules.specs.Items.{core_of, process_of, channel_of}
use Rattle.rules.specs.Layout.{core_stride, process_stride, channel_stride, process_at, channel_at, header_cores, header_processes, header_channels, core_first, core_spare, process_progress, process_next, process_spare, progress_size, links_size}
use Rattle.rules.specs.Packing.{place_number, work_words, heads, spare, core_words, progress_words, next_link, head_link, batch_link, process_words, channel_words, header_words, pack, word_at, k_of, n_of, m_of, word_of_core, word_of_process, word_of_channel}
use Rattle.rules.proofs.Packing.Blocks.{length_work_words, length_progress_words, first_part, second_part, pack_holds}

-- a test is read back from its number
pub bit_back : (n : ℕ) (t : Bool) → n ≡ bit t → eqb n 1 ≡ t
bit_back n true e = eq-eqb n 1 e
bit_back n false e = ne_eqb n 1 (omega arith)

-- K, N and M of a table
pub record Header (t : List ℕ) (k n m : ℕ) : Type 0 where
  pub cores : k_of t ≡ k
  pub processes : n_of t ≡ n
  pub channels : m_of t ≡ m

-- A core's words behind its work
abbrev pub queue_words : Core → List ℕ
queue_words c =
    first c.active ∷ last c.active ∷ length c.active ∷ c.dispatch ∷ bit c.mark
    ∷ first (heads c.run_queue) ∷ last (heads c.run_queue) ∷ spare core_stride core_spare

-- A process's words before its progress, and behind it
abbrev pub alternation_words : Alternation → List ℕ
alternation_words a = bit a.enabling ∷ bit a.not_ready ∷ bit a.waiting ∷ a.count ∷ []

abbrev pub state_words : Process → List ℕ
state_words r = place_number r.place ∷ r.data_word ∷ alternation_words r.alternation

abbrev pub link_words : State → ℕ → List ℕ
link_words s p = next_link s p ∷ head_link last s p ∷ head_link length s p ∷ batch_link s p ∷ []

abbrev pub rest_words : State → ℕ → List ℕ
rest_words s p = link_words s p ++ spare process_stride process_spare

module _ (s : State) where
  pub header_of_pack : Header (pack s) (length s.cores) (length s.processes) (length s.channels)
  unfolding header_words
  header_of_pack =
      let at = (pack_holds s).header in
      record { cores = at header_cores (lit< tt); processes = at header_processes (lit< tt); channels = at header_channels (lit< tt) }

  pub channel_word_of_pack : (c f : ℕ) → 1 ≤ c → c ≤ length s.channels → f < channel_stride
      → word_of_channel (pack s) c f ≡ get_or (channel_words (channel_of s c)) f 0
  channel_word_of_pack c f l b d =
      ap (λ (k : ℕ). word_at (pack s) (channel_at k (n_of (pack s)) c f)) header_of_pack.cores
      ∙ ap (λ (n : ℕ). word_at (pack s) (channel_at (length s.cores) n c f)) header_of_pack.processes
      ∙ (pack_holds s).channel c f l b d

module _ (s : State) (k : ℕ) (b : k < length s.cores) where
  -- a word of a core's work, and one behind it
  pub work_word : (f : ℕ) → f < core_first → word_of_core (pack s) k f ≡ get_or (work_words (core_of s k).work) f 0
  unfolding core_words
  work_word f c =
      let w = (core_of s k).work in
      (pack_holds s).core k f b (omega arith) ∙ first_part (work_words w) (queue_words (core_of s k)) core_first f (length_work_words w) c

  pub queue_word : (f : ℕ) → f < core_stride - core_first → word_of_core (pack s) k (core_first + f) ≡ get_or (queue_words (core_of s k)) f 0
  unfolding core_words
  queue_word f c =
      let w = (core_of s k).work in
      (pack_holds s).core k (core_first + f) b (omega arith)
      ∙ second_part (work_words w) (queue_words (core_of s k)) core_first f (length_work_words w)

module _ (s : State) (p : ℕ) (l : 1 ≤ p) (b : p ≤ length s.processes) where
  -- what it has in hand, and what stands from there on
  abbrev in_hand : List ℕ
  in_hand = progress_words (process_of s p).progress

  abbrev from_progress : List ℕ
  from_progress = in_hand ++ rest_words s p

  -- a word of a process
  word : (f : ℕ) → f < process_stride → word_of_process (pack s) p f ≡ get_or (state_words (process_of s p) ++ from_progress) f 0
  unfolding process_words
  word f c = ap (λ (k : ℕ). word_at (pack s) (process_at k p f)) (header_of_pack s).cores ∙ (pack_holds s).process p f l b c

  behind : (f : ℕ) → f < process_stride - process_progress → word_of_process (pack s) p (process_progress + f) ≡ get_or from_progress f 0
  behind f c = word (process_progress + f) (omega arith) ∙ second_part (state_words (process_of s p)) from_progress process_progress f refl

  -- one before its progress, and one of it
  pub state_word : (f : ℕ) → f < process_progress → word_of_process (pack s) p f ≡ get_or (state_words (process_of s p)) f 0
  state_word f c = word f (omega arith) ∙ first_part (state_words (process_of s p)) from_progress process_progress f refl c

  pub progress_word : (f : ℕ) → f < progress_size → word_of_process (pack s) p (process_progress + f) ≡ get_or in_hand f 0
  progress_word f c =
      behind f (omega arith) ∙ first_part in_hand (rest_words s p) progress_size f (length_progress_words (process_of s p).progress) c

  -- one behind it: a link, or what is left of its record
  rest_word : (f : ℕ) → f < process_stride - process_next → word_of_process (pack s) p (process_next + f) ≡ get_or (rest_words s p) f 0
  rest_word f c =
      let e : process_next + f ≡ process_progress + (progress_size + f) = omega arith in
      ap (word_of_process (pack s) p) e ∙ behind (progress_size + f) (omega arith)
      ∙ second_part in_hand (rest_words s p) progress_size f (length_progress_words (process_of s p).progress)

  pub link_word : (f : ℕ) → f < links_size → word_of_process (pack s) p (process_next + f) ≡ get_or (link_words s p) f 0
  link_word f c = rest_word f (omega arith) ∙ first_part (link_words s p) (spare process_stride process_spare) links_size f refl c

  pub spare_word : (f : ℕ) → f < process_stride - process_spare → word_of_process (pack s) p (process_spare + f) ≡ 0
  spare_word f c =
      let e : process_spare + f ≡ process_next + (links_size + f) = omega arith in
      ap (word_of_process (pack s) p) e ∙ rest_word (links_size + f) (omega arith)
      ∙ second_part (link_words s p) (spare process_stride process_spare) links_size f refl
      ∙ get_or-replicate (process_stride - process_spare) f 0 0 c
