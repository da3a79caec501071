-- Document 01, "The state": when a state is valid, sentence by sentence, and when a table is sound.
use Rattle.std.specs.Prelude.{ℕ, Bool, true, false, ◌&&◌, List, [], ◌∷◌, eqb, leb, ltb, length, if◌then◌else◌}
use Rattle.std.proofs.Math.Option.{Option, none, some}
use Rattle.rules.specs.Lists.{within, all, total, from, distinct, bit, times, same_words}
use Rattle.rules.specs.State.{Place, running, queued, asleep, ended, Way, sending, receiving, Stage, look, park, copy, clear, wake, enable_look, raise, place_name, ready_from_look, ready_from_place, wait, disable, lower, finish, go, sent, got, chose, Progress, nothing, doing, due, no_task, trigger, wake_up, Work, runs, free, Core, queues_of, ChannelWord, nobody, plain, choosing, Channel, State, Wiring, wiring, is_channel, may_use, users}
use Rattle.rules.specs.Items.{process_of}
use Rattle.rules.specs.SetUp.{sizes}
use Rattle.rules.specs.Packing.{pack, view}

-- "Values sent are any 32-bit number."
abbrev pub word32 : ℕ → Bool
word32 n = ltb n 4294967296

-- "every number is in its range": a process is one of 1 to N
abbrev pub is_process : Wiring → ℕ → Bool
is_process w p = within 1 w.N p

-- "each channel in a progress is one whose proper end that process is"
abbrev pub own_end : Wiring → Way → ℕ → ℕ → Bool
own_end w way p c = is_channel w c && may_use w way p c

-- "1 to 8 guards in a choice"; "guards are distinct"
abbrev pub own_guards : Wiring → ℕ → List ℕ → Bool
own_guards w p gs = within 1 8 (length gs) && all (own_end w receiving p) gs && distinct gs

-- "guard index and first ready guard (or none) lie in their list"
abbrev pub in_list : List ℕ → ℕ → Bool
in_list gs i = within 1 (length gs) i

abbrev pub ready_in_list : List ℕ → Option ℕ → Bool
ready_in_list gs none = true
ready_in_list gs (some i) = in_list gs i

abbrev pub valid_enabling : Wiring → ℕ → List ℕ → ℕ → Bool
valid_enabling w p gs i = own_guards w p gs && in_list gs i

abbrev pub valid_disabling : Wiring → ℕ → List ℕ → ℕ → Option ℕ → Bool
valid_disabling w p gs i r = own_guards w p gs && in_list gs i && ready_in_list gs r

abbrev pub valid_stage : Wiring → ℕ → Stage → Bool
valid_stage w p (look way c) = own_end w way p c
valid_stage w p (park way c) = own_end w way p c
valid_stage w p (copy way c q) = own_end w way p c && is_process w q
valid_stage w p (clear way c q) = own_end w way p c && is_process w q
valid_stage w p (wake way c q) = own_end w way p c && is_process w q
valid_stage w p (enable_look gs i) = valid_enabling w p gs i
valid_stage w p (raise gs i) = valid_enabling w p gs i
valid_stage w p (place_name gs i) = valid_enabling w p gs i
valid_stage w p (ready_from_look gs i) = valid_enabling w p gs i
valid_stage w p (ready_from_place gs i) = valid_enabling w p gs i
valid_stage w p (wait gs) = own_guards w p gs
valid_stage w p (disable gs i r) = valid_disabling w p gs i r
valid_stage w p (lower gs i r) = valid_disabling w p gs i r
valid_stage w p (finish gs r) = own_guards w p gs && ready_in_list gs r

abbrev pub valid_progress : Wiring → ℕ → Progress → Bool
valid_progress w p nothing = true
valid_progress w p (doing x) = valid_stage w p x
valid_progress w p (due go) = true
valid_progress w p (due (sent c)) = own_end w sending p c
valid_progress w p (due (got c)) = own_end w receiving p c
valid_progress w p (due (chose c)) = own_end w receiving p c

-- "A running process has nothing in hand or a stage; a queued or sleeping one has a stage or an outcome; an ended one has nothing in
-- hand."
abbrev pub fits : Place → Progress → Bool
fits running nothing = true
fits running (doing x) = true
fits running (due o) = false
fits queued nothing = false
fits queued (doing x) = true
fits queued (due o) = true
fits asleep nothing = false
fits asleep (doing x) = true
fits asleep (due o) = true
fits ended nothing = true
fits ended (doing x) = false
fits ended (due o) = false

-- on how many cores p runs, and how often it stands in a queue
abbrev pub runs_it : ℕ → Work → ℕ
runs_it p (runs q) = bit (eqb q p)
runs_it p (free t) = 0

unfoldable pub on_cores : State → ℕ → ℕ
on_cores s p = total (λ (c : Core). runs_it p c.work) s.cores

unfoldable pub in_queues : State → ℕ → ℕ
in_queues s p = total (λ (c : Core). total (times p) (queues_of c)) s.cores

-- "each process is in exactly one place: running on one core, once in one queue, asleep, or ended"
abbrev pub stands : ℕ → ℕ → Place → Bool
stands cores queues running = eqb cores 1 && eqb queues 0
stands cores queues queued = eqb cores 0 && eqb queues 1
stands cores queues asleep = eqb cores 0 && eqb queues 0
stands cores queues ended = eqb cores 0 && eqb queues 0

unfoldable pub valid_process : State → ℕ → Bool
valid_process s p =
    let r = process_of s p in
    word32 r.data_word && leb r.alternation.count 9 && valid_progress (users s) p r.progress && fits r.place r.progress
    && stands (on_cores s p) (in_queues s p) r.place

abbrev pub valid_work : Wiring → Work → Bool
valid_work w (runs p) = is_process w p
valid_work w (free no_task) = true
valid_work w (free (trigger q)) = is_process w q
valid_work w (free (wake_up q)) = is_process w q

-- "the run queue, a list of non-empty batches of processes"
abbrev pub not_empty : List ℕ → Bool
not_empty [] = false
not_empty (x ∷ xs) = true

unfoldable pub valid_core : Wiring → Core → Bool
valid_core w c = valid_work w c.work && leb c.dispatch 32 && all not_empty c.run_queue && all (all (is_process w)) (queues_of c)

abbrev pub valid_word : Wiring → ChannelWord → Bool
valid_word w nobody = true
valid_word w (plain q) = is_process w q
valid_word w (choosing q) = is_process w q

-- "writer and reader of a channel differ"
unfoldable pub valid_channel : Wiring → Channel → Bool
valid_channel w c =
    is_process w c.ends.writer && is_process w c.ends.reader && (if eqb c.ends.writer c.ends.reader then false else true)
    && valid_word w c.word && word32 c.transfers

unfoldable pub valid : State → Bool
valid s =
    sizes (length s.cores) (length s.processes) (length s.channels)
    && all (valid_core (wiring s)) s.cores
    && all (valid_process s) (from 1 (length s.processes))
    && all (valid_channel (wiring s)) s.channels

-- "A table is sound exactly when it is the packing of a state in which .." : of the state that is read out of it, if of any.
unfoldable pub sound : List ℕ → Bool
sound t = valid (view t) && same_words (pack (view t)) t
