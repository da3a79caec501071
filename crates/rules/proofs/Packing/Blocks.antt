-- The packing of a state holds the state's words: a list of blocks of one length, read at a block's number and a place in it.
use Prim.Native.Nat.{ℕ, zero, suc, ◌+◌, ◌*◌, ◌-◌, ◌≤◌, ◌<◌}
use mathlib.Core.Path.{◌≡◌, refl, sym, ap, ◌∙◌, subst}
use mathlib.Core.List.{List, [], ◌∷◌, ◌++◌, flat_map}
use mathlib.Core.Option.{Option, none}
use native.Mathlib.Omega.{arith}
use native.Mathlib.Nat.{mul-suc, mul-zero, zero-add, add-zero}
use lib.ListN.{length, get_or, length-append, get_or-append}
use lib.Seq.{get_or-append-add}
use Rattle.rules.specs.Lists.{from}
use Rattle.rules.specs.State.{Progress, no_task, trigger, wake_up, Work, runs, free, Core, State, Channel}
use Rattle.rules.specs.Items.{core_of, process_of, channel_of}
use Rattle.rules.specs.Layout.{header_size, core_stride, process_stride, channel_stride, processes_at, channels_at, core_at, process_at, channel_at, room, core_first, progress_size, guard_places}
use Rattle.rules.specs.Packing.{Carried, bare, channel_only, channel_partner, guards_only, guards_index, guards_index_ready, guards_ready, packed_as, work_words, core_words, padded, of_choice, carried_words, progress_words, process_words, channel_words, header_words, pack}
use Rattle.rules.proofs.Packing.Regions.{Dims, Words, Holds}

-- A list of blocks

-- a list of n blocks of b words each is b * n long
flat_length : (f : ℕ → List ℕ) (b : ℕ) → ((i : ℕ) → length (f i) ≡ b) → (a n : ℕ) → length (flat_map f (from a n)) ≡ b * n
unfolding flat_map
flat_length f b same a zero = sym (mul-zero b)
flat_length f b same a (suc n) =
    length-append (f a) (flat_map f (from (suc a) n)) ∙ omega (arith, same a, flat_length f b same (suc a) n, mul-suc b n)

-- the word at place j of the i-th block
flat_at : (f : ℕ → List ℕ) (b : ℕ) → ((i : ℕ) → length (f i) ≡ b) → (a n i j : ℕ) → i < n → j < b
    → get_or (flat_map f (from a n)) (b * i + j) 0 ≡ get_or (f (a + i)) j 0
unfolding flat_map
flat_at f b same a zero i j h g = absurd (omega arith)
flat_at f b same a (suc n) zero j h g =
    let e : b * 0 + j ≡ j = omega (arith, mul-zero b) in
    let z : a + 0 ≡ a = add-zero a in
    rw (e, z) (get_or-append (f a) (flat_map f (from (suc a) n)) 0 j (subst (λ (m : ℕ). j < m) (sym (same a)) g))
flat_at f b same a (suc n) (suc i) j h g =
    let e : b * suc i + j ≡ length (f a) + (b * i + j) = omega (arith, mul-suc b i, same a) in
    let z : a + suc i ≡ suc a + i = omega arith in
    rw (e, z) (get_or-append-add (f a) (flat_map f (from (suc a) n)) (b * i + j) 0 ∙ flat_at f b same (suc a) n i j (omega arith) g)

-- Lengths

pub length_padded : (n : ℕ) (l : List ℕ) → length (padded n l) ≡ n
length_padded zero l = refl
length_padded (suc n) [] = ap suc (length_padded n [])
length_padded (suc n) (x ∷ xs) = ap suc (length_padded n xs)

length_choice : (number : ℕ) (gs : List ℕ) (i : ℕ) (r : Option ℕ) → length (of_choice number gs i r) ≡ progress_size
length_choice number gs i r = omega (arith, length_padded guard_places gs)

length_carried_words : (number : ℕ) (x : Carried) → length (carried_words number x) ≡ progress_size
length_carried_words number bare = refl
length_carried_words number (channel_only c) = refl
length_carried_words number (channel_partner c q) = refl
length_carried_words number (guards_only gs) = length_choice number gs 0 none
length_carried_words number (guards_index gs i) = length_choice number gs i none
length_carried_words number (guards_index_ready gs i r) = length_choice number gs i r
length_carried_words number (guards_ready gs r) = length_choice number gs 0 r

pub length_progress_words : (x : Progress) → length (progress_words x) ≡ progress_size
unfolding progress_words
length_progress_words x = length_carried_words (packed_as x).0 (packed_as x).1

pub length_work_words : (w : Work) → length (work_words w) ≡ core_first
length_work_words (runs p) = refl
length_work_words (free no_task) = refl
length_work_words (free (trigger q)) = refl
length_work_words (free (wake_up q)) = refl

pub length_core_words : (c : Core) → length (core_words c) ≡ core_stride
unfolding core_words
length_core_words c = simp length-append (omega (arith, length_work_words c.work))

pub length_process_words : (s : State) (p : ℕ) → length (process_words s p) ≡ process_stride
unfolding process_words
length_process_words s p = simp length-append (omega (arith, length_progress_words (process_of s p).progress))

pub length_channel_words : (c : Channel) → length (channel_words c) ≡ channel_stride
unfolding channel_words
length_channel_words c = refl

length_header_words : (s : State) → length (header_words s) ≡ header_size
unfolding header_words
length_header_words s = refl

-- The words of a state

abbrev pub dims : State → Dims
dims s = record { K = length s.cores; N = length s.processes; M = length s.channels }

abbrev pub words_of : State → Words
words_of s =
    record {
      header = λ f. get_or (header_words s) f 0;
      core = λ k f. get_or (core_words (core_of s k)) f 0;
      process = λ p f. get_or (process_words s p) f 0;
      channel = λ c f. get_or (channel_words (channel_of s c)) f 0;
    }

-- a word of the second of two lists
pub second_part : (l m : List ℕ) (n i : ℕ) → length l ≡ n → get_or (l ++ m) (n + i) 0 ≡ get_or m i 0
second_part l m n i e = subst (λ (k : ℕ). get_or (l ++ m) (k + i) 0 ≡ get_or m i 0) e (get_or-append-add l m i 0)

-- a word of the first
pub first_part : (l m : List ℕ) (n i : ℕ) → length l ≡ n → i < n → get_or (l ++ m) i 0 ≡ get_or l i 0
first_part l m n i e h = get_or-append l m 0 i (subst (λ (k : ℕ). i < k) (sym e) h)

abbrev core_blocks : State → List ℕ
core_blocks s = flat_map (λ k. core_words (core_of s k)) (from 0 (length s.cores))

abbrev process_blocks : State → List ℕ
process_blocks s = flat_map (λ p. process_words s p) (from 1 (length s.processes))

abbrev channel_blocks : State → List ℕ
channel_blocks s = flat_map (λ c. channel_words (channel_of s c)) (from 1 (length s.channels))

length_core_blocks : (s : State) → length (core_blocks s) ≡ core_stride * length s.cores
length_core_blocks s = flat_length (λ k. core_words (core_of s k)) core_stride (λ k. length_core_words (core_of s k)) 0 (length s.cores)

length_process_blocks : (s : State) → length (process_blocks s) ≡ process_stride * length s.processes
length_process_blocks s = flat_length (λ p. process_words s p) process_stride (length_process_words s) 1 (length s.processes)

length_channel_blocks : (s : State) → length (channel_blocks s) ≡ channel_stride * length s.channels
length_channel_blocks s = flat_length (λ c. channel_words (channel_of s c)) channel_stride (λ c. length_channel_words (channel_of s c)) 1 (length s.channels)

-- how long the parts of a packing are, up to the end of each region
length_to_cores : (s : State) → length (header_words s ++ core_blocks s) ≡ processes_at (length s.cores)
length_to_cores s = length-append (header_words s) (core_blocks s) ∙ omega (arith, length_header_words s, length_core_blocks s)

length_to_processes : (s : State) → length (header_words s ++ core_blocks s ++ process_blocks s) ≡ channels_at (length s.cores) (length s.processes)
length_to_processes s =
    length-append (header_words s ++ core_blocks s) (process_blocks s) ∙ omega (arith, length_to_cores s, length_process_blocks s)

-- The packing of a state holds its words.
pub pack_holds : (s : State) → Holds (dims s) (words_of s) (pack s)
unfolding pack
pack_holds s = record { size = size; header = at_header; core = at_core; process = at_process; channel = at_channel }
  where
    size : length (pack s) ≡ room (length s.cores) (length s.processes) (length s.channels)
    size =
        length-append (header_words s ++ core_blocks s ++ process_blocks s) (channel_blocks s)
        ∙ omega (arith, length_to_processes s, length_channel_blocks s)

    -- a word before the end of the processes, and one before the end of the cores
    before_channels : (i : ℕ) → i < channels_at (length s.cores) (length s.processes)
        → get_or (pack s) i 0 ≡ get_or (header_words s ++ core_blocks s ++ process_blocks s) i 0
    before_channels i h = first_part (header_words s ++ core_blocks s ++ process_blocks s) (channel_blocks s) _ i (length_to_processes s) h

    before_processes : (i : ℕ) → i < processes_at (length s.cores) → get_or (pack s) i 0 ≡ get_or (header_words s ++ core_blocks s) i 0
    before_processes i h =
        before_channels i (omega arith) ∙ first_part (header_words s ++ core_blocks s) (process_blocks s) _ i (length_to_cores s) h

    at_header : (f : ℕ) → f < header_size → get_or (pack s) f 0 ≡ get_or (header_words s) f 0
    at_header f h = before_processes f (omega arith) ∙ first_part (header_words s) (core_blocks s) header_size f (length_header_words s) h

    at_core : (k f : ℕ) → k < length s.cores → f < core_stride → get_or (pack s) (core_at k f) 0 ≡ get_or (core_words (core_of s k)) f 0
    at_core k f h g =
        before_processes (core_at k f) (omega arith)
        ∙ ap (λ (i : ℕ). get_or (header_words s ++ core_blocks s) i 0) (let e : core_at k f ≡ header_size + (core_stride * k + f) = omega arith in e)
        ∙ second_part (header_words s) (core_blocks s) header_size (core_stride * k + f) (length_header_words s)
        ∙ flat_at (λ k. core_words (core_of s k)) core_stride (λ k. length_core_words (core_of s k)) 0 (length s.cores) k f h g
        ∙ ap (λ (i : ℕ). get_or (core_words (core_of s i)) f 0) (zero-add k)

    at_process : (p f : ℕ) → 1 ≤ p → p ≤ length s.processes → f < process_stride
        → get_or (pack s) (process_at (length s.cores) p f) 0 ≡ get_or (process_words s p) f 0
    at_process p f l h g =
        before_channels (process_at (length s.cores) p f) (omega arith)
        ∙ ap (λ (i : ℕ). get_or (header_words s ++ core_blocks s ++ process_blocks s) i 0) place
        ∙ second_part (header_words s ++ core_blocks s) (process_blocks s) _ (process_stride * (p - 1) + f) (length_to_cores s)
        ∙ flat_at (λ p. process_words s p) process_stride (length_process_words s) 1 (length s.processes) (p - 1) f (omega arith) g
        ∙ ap (λ (i : ℕ). get_or (process_words s i) f 0) (let e : 1 + (p - 1) ≡ p = omega arith in e)
      where
        place : process_at (length s.cores) p f ≡ processes_at (length s.cores) + (process_stride * (p - 1) + f)
        place = omega arith

    at_channel : (c f : ℕ) → 1 ≤ c → c ≤ length s.channels → f < channel_stride
        → get_or (pack s) (channel_at (length s.cores) (length s.processes) c f) 0 ≡ get_or (channel_words (channel_of s c)) f 0
    at_channel c f l h g =
        ap (λ (i : ℕ). get_or (pack s) i 0) place
        ∙ second_part (header_words s ++ core_blocks s ++ process_blocks s) (channel_blocks s) _ (channel_stride * (c - 1) + f) (length_to_processes s)
        ∙ flat_at (λ c. channel_words (channel_of s c)) channel_stride (λ c. length_channel_words (channel_of s c)) 1 (length s.channels) (c - 1) f (omega arith) g
        ∙ ap (λ (i : ℕ). get_or (channel_words (channel_of s i)) f 0) (let e : 1 + (c - 1) ≡ c = omega arith in e)
      where
        place : channel_at (length s.cores) (length s.processes) c f ≡ channels_at (length s.cores) (length s.processes) + (channel_stride * (c - 1) + f)
        place = omega arith
