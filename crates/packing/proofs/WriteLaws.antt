-- Write laws: writes into one block of a packing give the packing of the state with another item.
use Prim.Native.Nat.{ℕ, ◌+◌, ◌-◌, ◌≤◌, ◌<◌}
use mathlib.Core.Path.{◌≡◌, refl, sym, ap, ◌∙◌, ap₂}
use mathlib.Core.List.{List, [], ◌∷◌, ◌++◌}
use lib.Dec.{T, lit≤}
use lib.ListN.{length, get_or, set, length-set}
use lib.Seq.{get_or-set_same, set-set}
use Rattle.rules.specs.Lists.{total, follows, last}
use Rattle.rules.specs.State.{Place, Alternation, Progress, Process, ChannelWord, Channel, Core, State}
use Rattle.rules.specs.Items.{Region, cores, processes, channels, with_record, no_core, no_process, no_channel, core_of, process_of, channel_of, put, core, place, data_word, alternation, progress, channel_word, transfers}
use Rattle.rules.specs.Layout.{core_stride, process_stride, channel_stride, core_at, process_at, channel_at, process_place, process_data, process_enabling, process_progress, progress_size, channel_holder, channel_transfers}
use Rattle.rules.specs.Packing.{place_number, word_number, heads, if_head, core_words, progress_words, next_link, head_link, batch_link, process_words, channel_words, pack}
use Rattle.rules.proofs.Packing.Regions.{Same}
use Rattle.rules.proofs.Packing.Blocks.{
  dims,
  words_of,
  pack_holds,
  length_core_words,
  length_process_words,
  length_channel_words,
  length_progress_words,
}
use Rattle.packing.proofs.Links.{links_of, held_first, held_writes, held_last, next_kept, head_kept, next_head_kept}
use Rattle.rules.proofs.Packing.Reading.{alternation_words, rest_words}
use Rattle.packing.proofs.ReadLaws.{listed, listed_same, core_list, own_words, channel_list, process_split}
use Rattle.rules.proofs.Nth.{nth_set_same, nth_set_other}
use Rattle.rules.proofs.Tests.{here_or_there}
use Rattle.packing.proofs.States.{dims_record, packed, same_header}
use Rattle.packing.proofs.Focus.{size_in, Has, address, words_in, focus, focus_start, focus_writes, writes, below, writes_inside, below_shifted}

-- the words of a block of a state
abbrev pub block_words : Region → State → ℕ → List ℕ
block_words cores s k = core_words (core_of s k)
block_words processes s p = process_words s p
block_words channels s c = channel_words (channel_of s c)

-- it is as long as a block of its region
length_block_words : (r : Region) (s : State) (j : ℕ) → length (block_words r s j) ≡ size_in r
length_block_words cores s k = length_core_words (core_of s k)
length_block_words processes s p = length_process_words s p
length_block_words channels s c = length_channel_words (channel_of s c)

-- Writes that turn a block of s into that of s' turn the packing of s into that of s', if the two states differ in that block alone.
pub writes_law : (r : Region) (s s' : State) (j : ℕ) (at : ℕ → ℕ) (ws : List (ℕ × ℕ)) → Has (dims s) r j → T (below (size_in r) at ws)
    → dims s' ≡ dims s → Same (dims s) (focus r j (block_words r s' j) (words_of s)) (words_of s')
    → writes ws at (block_words r s j) ≡ block_words r s' j
    → writes ws (λ f. address (dims s) r j (at f)) (pack s) ≡ pack s'
writes_law r s s' j at ws h b e same turned =
    packed s s' (focus r j (writes ws at (block_words r s j)) (words_of s)) _ e
    (focus_writes r (dims s) (words_of s) j at ws (block_words r s j) (pack s) h (length_block_words r s j) b
    (focus_start r (dims s) (words_of s) j (block_words r s j) (pack s) (own r) (pack_holds s)))
    (rw turned same)
  where
    own : (r : Region) (f : ℕ) → words_in r (words_of s) j f ≡ get_or (block_words r s j) f 0
    own cores f = refl
    own processes f = refl
    own channels f = refl

-- Processes

-- Writes that turn a process's own words into another's
pub process_law : (s : State) (p : ℕ) (r : Process) (at : ℕ → ℕ) (ws : List (ℕ × ℕ))
    → 1 ≤ p → p ≤ length s.processes → T (below process_stride at ws)
    → writes ws at (own_words (process_of s p) ++ rest_words s p) ≡ own_words r ++ rest_words s p
    → writes ws (λ f. process_at (length s.cores) p (at f)) (pack s) ≡ pack (with_record processes p r s)
unfolding next_link head_link batch_link
process_law s p r at ws low high b turned =
    writes_law processes s (with_record processes p r s) p at ws (low, high) b (dims_record processes p r s)
    (record {
      header = λ f b'. ap (λ (l : List ℕ). get_or l f 0) (same_header s (with_record processes p r s) (dims_record processes p r s));
      core = λ i f b' b''. refl;
      process = λ i f low' b' b''.
          here_or_there p i _ _ (λ x. get_or (process_words (with_record processes p r s) x) f 0) (λ e. refl)
          (λ ne. ap (λ (l : List ℕ). get_or l f 0) (others i ne));
      channel = λ i f low' b' b''. refl;
    })
    (ap (writes ws at) (process_split s p) ∙ turned ∙ sym here)
  where
    here : process_words (with_record processes p r s) p ≡ own_words r ++ rest_words s p
    here =
        process_split (with_record processes p r s) p
        ∙ ap (λ (x : Process). own_words x ++ rest_words s p) (nth_set_same s.processes p r no_process low high)

    others : (i : ℕ) → (i ≡ p → ⊥) → process_words s i ≡ process_words (with_record processes p r s) i
    others i ne =
        process_split s i
        ∙ ap (λ (x : Process). own_words x ++ rest_words s i) (sym (nth_set_other s.processes p i r no_process ne))
        ∙ sym (process_split (with_record processes p r s) i)

-- Writes into n words that begin at word m, with the words a before them and z behind
part_law : (s : State) (p : ℕ) (r : Process) (ws : List (ℕ × ℕ)) (a l l' z : List ℕ) (m n : ℕ) → 1 ≤ p → p ≤ length s.processes
    → length a ≡ m → length l ≡ n → m + n ≤ process_stride → T (below n (λ j. j) ws) → writes ws (λ j. j) l ≡ l'
    → own_words (process_of s p) ++ rest_words s p ≡ a ++ l ++ z → a ++ l' ++ z ≡ own_words r ++ rest_words s p
    → writes ws (λ j. process_at (length s.cores) p (m + j)) (pack s) ≡ pack (with_record processes p r s)
part_law s p r ws a l l' z m n low high e e' fits b turned before after =
    process_law s p r (λ j. m + j) ws low high (below_shifted ws m n process_stride fits b)
    (ap (writes ws (λ j. m + j)) before ∙ writes_inside ws a l z m n e e' b ∙ ap (λ (l : List ℕ). a ++ l ++ z) turned ∙ after)

module _ (s : State) (p : ℕ) (low : 1 ≤ p) (high : p ≤ length s.processes) where
  -- its place
  pub put_place : (x : Place) → set (pack s) (process_at (length s.cores) p process_place) (place_number x) ≡ pack (put place p x s)
  put_place x = process_law s p _ (λ j. j) ((process_place, place_number x) ∷ []) low high tt refl

  -- its data
  pub put_data_word : (v : ℕ) → set (pack s) (process_at (length s.cores) p process_data) v ≡ pack (put data_word p v s)
  put_data_word v = process_law s p _ (λ j. j) ((process_data, v) ∷ []) low high tt refl

  -- its alternation state, which ends where its progress begins
  pub put_alternation : (v : Alternation) (ws : List (ℕ × ℕ)) → T (below (process_progress - process_enabling) (λ j. j) ws)
      → writes ws (λ j. j) (alternation_words (process_of s p).alternation) ≡ alternation_words v
      → writes ws (λ j. process_at (length s.cores) p (process_enabling + j)) (pack s) ≡ pack (put alternation p v s)
  put_alternation v ws b turned =
      let r = process_of s p in
      part_law s p _ ws (place_number r.place ∷ r.data_word ∷ []) (alternation_words r.alternation) _
      (progress_words r.progress ++ rest_words s p) process_enabling (process_progress - process_enabling) low high refl refl (lit≤ tt) b turned refl refl

  -- its progress
  pub put_progress : (v : Progress) (ws : List (ℕ × ℕ)) → T (below progress_size (λ j. j) ws)
      → writes ws (λ j. j) (progress_words (process_of s p).progress) ≡ progress_words v
      → writes ws (λ j. process_at (length s.cores) p (process_progress + j)) (pack s) ≡ pack (put progress p v s)
  put_progress v ws b turned =
      let r = process_of s p in
      part_law s p _ ws (place_number r.place ∷ r.data_word ∷ alternation_words r.alternation) (progress_words r.progress) _
      (rest_words s p) process_progress progress_size low high refl (length_progress_words r.progress) (lit≤ tt) b turned refl refl

-- What writes make of the words of a progress can be computed on those words written out.
pub on_listed : (x : Progress) (ws : List (ℕ × ℕ)) {l : List ℕ}
    → writes ws (λ j. j) (listed (progress_words x) progress_size) ≡ l → writes ws (λ j. j) (progress_words x) ≡ l
on_listed x ws e = ap (writes ws (λ j. j)) (listed_same (progress_words x) progress_size (length_progress_words x)) ∙ e

-- Channels

-- Writes that turn a channel's words into another's
pub channel_law : (s : State) (c : ℕ) (r : Channel) (at : ℕ → ℕ) (ws : List (ℕ × ℕ))
    → 1 ≤ c → c ≤ length s.channels → T (below channel_stride at ws)
    → writes ws at (channel_list (channel_of s c)) ≡ channel_list r
    → writes ws (λ f. channel_at (length s.cores) (length s.processes) c (at f)) (pack s) ≡ pack (with_record channels c r s)
unfolding process_words next_link head_link batch_link channel_words
channel_law s c r at ws low high b turned =
    writes_law channels s (with_record channels c r s) c at ws (low, high) b (dims_record channels c r s)
    (record {
      header = λ f b'. ap (λ (l : List ℕ). get_or l f 0) (same_header s (with_record channels c r s) (dims_record channels c r s));
      core = λ i f b' b''. refl;
      process = λ i f low' b' b''. refl;
      channel = λ i f low' b' b''.
          here_or_there c i _ _ (λ x. get_or (channel_list (channel_of (with_record channels c r s) x)) f 0) (λ e. refl)
          (λ ne. ap (λ (x : Channel). get_or (channel_list x) f 0) (sym (nth_set_other s.channels c i r no_channel ne)));
    })
    (turned ∙ ap channel_list (sym (nth_set_same s.channels c r no_channel low high)))

module _ (s : State) (c : ℕ) (low : 1 ≤ c) (high : c ≤ length s.channels) where
  -- its channel word
  pub put_channel_word : (w : ChannelWord)
      → set (pack s) (channel_at (length s.cores) (length s.processes) c channel_holder) (word_number w) ≡ pack (put channel_word c w s)
  put_channel_word w = channel_law s c _ (λ j. j) ((channel_holder, word_number w) ∷ []) low high tt refl

  -- its transfers
  pub put_transfers : (n : ℕ) → set (pack s) (channel_at (length s.cores) (length s.processes) c channel_transfers) n ≡ pack (put transfers c n s)
  put_transfers n = channel_law s c _ (λ j. j) ((channel_transfers, n) ∷ []) low high tt refl

-- Cores

-- Writes that turn a core's words into those of a core with the same queues
pub put_core : (s : State) (k : ℕ) (c : Core) (at : ℕ → ℕ) (ws : List (ℕ × ℕ)) → k < length s.cores → T (below core_stride at ws)
    → (core_of s k).active ≡ c.active → (core_of s k).run_queue ≡ c.run_queue
    → writes ws at (core_list (core_of s k)) ≡ core_list c
    → writes ws (λ f. core_at k (at f)) (pack s) ≡ pack (put core k c s)
put_core s k c at ws inside b same_active same_batches turned =
    held_last s k c (writes ws at (core_list (core_of s k))) (links_of s) _ inside
    (held_writes s k inside at ws b (held_first s k inside)) turned
    (record {
      next = λ p low high. next_kept s k c inside p (ap₂ (λ a r. total (follows p) (a ∷ r)) same_active same_batches);
      batch_last = λ p low high. head_kept s k c inside last p (ap (total (if_head last p)) same_batches);
      batch_size = λ p low high. head_kept s k c inside length p (ap (total (if_head length p)) same_batches);
      next_head = λ p low high. next_head_kept s k c inside p (ap (λ r. follows p (heads r)) same_batches);
    })

-- the same after that core was changed already, as by a change of its queues
pub put_core_again : (s : State) (k : ℕ) (old new : Core) (at : ℕ → ℕ) (ws : List (ℕ × ℕ)) → k < length s.cores → T (below core_stride at ws)
    → old.active ≡ new.active → old.run_queue ≡ new.run_queue → writes ws at (core_list old) ≡ core_list new
    → writes ws (λ f. core_at k (at f)) (pack (put core k old s)) ≡ pack (put core k new s)
put_core_again s k old new at ws inside b same_active same_batches turned =
    put_core (put core k old s) k new at ws (rw (length-set s.cores k old) inside) b (ap (λ (c : Core). c.active) here ∙ same_active)
    (ap (λ (c : Core). c.run_queue) here ∙ same_batches) (ap (λ (c : Core). writes ws at (core_list c)) here ∙ turned)
    ∙ ap (λ (l : List Core). pack (record { cores = l; processes = s.processes; channels = s.channels })) (set-set s.cores k old new)
  where
    here : core_of (put core k old s) k ≡ old
    here = get_or-set_same s.cores k old no_core inside
