-- Read laws: what code reads at an address of a packing, as an entry of an explicit list. At a literal place the entry computes.
use Prim.Native.Nat.{ℕ, zero, suc, ◌+◌, ◌≤◌, ◌<◌}
use mathlib.Core.Path.{◌≡◌, refl, sym, ap, ◌∙◌}
use mathlib.Core.List.{List, [], ◌∷◌, ◌++◌}
use native.Mathlib.Omega.{arith}
use native.Mathlib.Nat.{zero-add}
use lib.ListN.{length, get_or}
use lib.Seq.{ext_get_or}
use Rattle.rules.specs.Lists.{tabulate}
use Rattle.rules.specs.State.{Process, Core, Channel, State}
use Rattle.rules.specs.Items.{core_of, process_of, channel_of}
use Rattle.rules.specs.Layout.{core_stride, process_stride, channel_stride, core_at, process_at, channel_at, core_first, process_progress, progress_size, channel_spare}
use Rattle.rules.specs.Packing.{word_number, work_words, spare, padded, core_words, progress_words, process_words, channel_words, pack}
use Rattle.rules.proofs.Tabulate.{length_tabulate, tabulate_at}
use Rattle.rules.proofs.Packing.Blocks.{pack_holds, length_padded, length_work_words, length_progress_words}
use Rattle.rules.proofs.Packing.Reading.{queue_words, state_words, rest_words, header_of_pack, progress_word}

-- A list written out

-- a list of n words, written out word by word
abbrev pub listed : List ℕ → ℕ → List ℕ
listed l n = tabulate (λ i. get_or l i 0) 0 n

-- a list of n words that are those of l
same_listed : (l m : List ℕ) (n : ℕ) → length m ≡ n → ((i : ℕ) → i < n → get_or m i 0 ≡ get_or l i 0) → m ≡ listed l n
same_listed l m n e same = ext_get_or 0 m (listed l n) (e ∙ sym (length_tabulate (λ i. get_or l i 0) 0 n)) each
  where
    each : (i : ℕ) → i < length m → get_or m i 0 ≡ get_or (listed l n) i 0
    each i h =
        let b : i < n = omega (arith, e) in
        same i b ∙ sym (tabulate_at (λ i. get_or l i 0) 0 n 0 i b ∙ ap (λ (j : ℕ). get_or l j 0) (zero-add i))

-- the list itself
pub listed_same : (l : List ℕ) (n : ℕ) → length l ≡ n → l ≡ listed l n
listed_same l n e = same_listed l l n e (λ i h. refl)

-- the list cut or filled up with zeros to n words
get_or_padded : (n : ℕ) (l : List ℕ) (i : ℕ) → i < n → get_or (padded n l) i 0 ≡ get_or l i 0
get_or_padded zero l i h = absurd (omega arith)
get_or_padded (suc n) [] zero h = refl
get_or_padded (suc n) [] (suc i) h = get_or_padded n [] i (omega arith)
get_or_padded (suc n) (x ∷ l) zero h = refl
get_or_padded (suc n) (x ∷ l) (suc i) h = get_or_padded n l i (omega arith)

pub padded_listed : (n : ℕ) (l : List ℕ) → padded n l ≡ listed l n
padded_listed n l = same_listed l (padded n l) n (length_padded n l) (get_or_padded n l)

-- A core's words: those of its work written out, then the others
abbrev pub core_list : Core → List ℕ
core_list c = listed (work_words c.work) core_first ++ queue_words c

-- these are the words of the packing
pub core_listed : (c : Core) → core_words c ≡ core_list c
unfolding core_words
core_listed c = ap (λ (l : List ℕ). l ++ queue_words c) (listed_same (work_words c.work) core_first (length_work_words c.work))

-- A process's own words: place, data, alternation state; then its progress
abbrev pub own_words : Process → List ℕ
own_words r = state_words r ++ progress_words r.progress

-- with its links and what is left they are the words of the packing
pub process_split : (s : State) (p : ℕ) → process_words s p ≡ own_words (process_of s p) ++ rest_words s p
unfolding process_words
process_split s p = refl

-- all of them, written out
abbrev pub process_list : State → ℕ → List ℕ
process_list s p =
    let r = process_of s p in state_words r ++ listed (progress_words r.progress) progress_size ++ rest_words s p

-- these are the words of the packing
pub process_listed : (s : State) (p : ℕ) → process_words s p ≡ process_list s p
process_listed s p =
    let r = process_of s p in
    process_split s p
    ∙ ap (λ (l : List ℕ). state_words r ++ l ++ rest_words s p) (listed_same (progress_words r.progress) progress_size (length_progress_words r.progress))

-- A channel's words
abbrev pub channel_list : Channel → List ℕ
channel_list c = c.ends.writer ∷ c.ends.reader ∷ word_number c.word ∷ c.transfers ∷ spare channel_stride channel_spare

-- The laws

-- the word f of core k
pub read_core : (s : State) (k f : ℕ) → k < length s.cores → f < core_stride → get_or (pack s) (core_at k f) 0 ≡ get_or (core_list (core_of s k)) f 0
read_core s k f h b = (pack_holds s).core k f h b ∙ ap (λ (l : List ℕ). get_or l f 0) (core_listed (core_of s k))

-- the word f of process p
pub read_process : (s : State) (p f : ℕ) → 1 ≤ p → p ≤ length s.processes → f < process_stride
    → get_or (pack s) (process_at (length s.cores) p f) 0 ≡ get_or (process_list s p) f 0
read_process s p f l h b = (pack_holds s).process p f l h b ∙ ap (λ (l : List ℕ). get_or l f 0) (process_listed s p)

-- the word f of channel c
pub read_channel : (s : State) (c f : ℕ) → 1 ≤ c → c ≤ length s.channels → f < channel_stride
    → get_or (pack s) (channel_at (length s.cores) (length s.processes) c f) 0 ≡ get_or (channel_list (channel_of s c)) f 0
unfolding channel_words
read_channel s c f l h b = (pack_holds s).channel c f l h b

-- the word j of the progress of process p, also where j is no literal
pub read_progress : (s : State) (p : ℕ) → 1 ≤ p → p ≤ length s.processes → (j : ℕ) → j < progress_size
    → get_or (pack s) (process_at (length s.cores) p (process_progress + j)) 0 ≡ get_or (progress_words (process_of s p).progress) j 0
read_progress s p low high j b =
    ap (λ (k : ℕ). get_or (pack s) (process_at k p (process_progress + j)) 0) (sym (header_of_pack s).cores) ∙ progress_word s p low high j b
