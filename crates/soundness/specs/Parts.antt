-- Parts of the check's definition by name, as the functions of the code take them.
use Rattle.std.specs.Prelude.{ℕ, ◌+◌, Bool, ◌&&◌, List, eqb, leb, set, replicate, if◌then◌else◌}
use Rattle.rules.specs.Layout.{core_at, process_at, core_first, core_last, core_first_head, core_last_head, process_last, process_next_head}
use Rattle.fitting.specs.Twin.{word, core_fits, Walk, flaw, well, meet_running, cores_walk, rest_fits}

-- The queues of a core under one name each: 0 is the active queue, otherwise the batch with this head.

abbrev pub first_of : List ℕ → ℕ → ℕ → ℕ
first_of t k queue = if eqb queue 0 then word t (core_at k core_first) else queue

-- where the last process stands; the size stands next to it
abbrev pub ends_at : ℕ → ℕ → ℕ → ℕ
ends_at K k queue = if eqb queue 0 then core_at k core_last else process_at K queue process_last

-- a queue's last process and its size stand at the word a and the one after
abbrev pub stand_at : List ℕ → ℕ → ℕ → ℕ → Bool
stand_at t a last size = eqb (word t a) last && eqb (word t (a + 1)) size

abbrev pub next_head : List ℕ → ℕ → ℕ → ℕ → ℕ
next_head t K k queue = if eqb queue 0 then word t (core_at k core_first_head) else word t (process_at K queue process_next_head)

-- what follows a queue: another batch, or nothing, and then the core's last head is this one
abbrev pub next_fits : List ℕ → ℕ → ℕ → ℕ → ℕ → Bool
next_fits t N k queue next = if eqb next 0 then eqb (word t (core_at k core_last_head)) queue else leb next N

abbrev pub queue_ends : List ℕ → ℕ → ℕ → ℕ → ℕ → ℕ → ℕ → Bool
queue_ends t K N k queue last size = stand_at t (ends_at K k queue) last size && next_fits t N k queue (next_head t K k queue)

-- the head of a batch is marked once the batch was met
abbrev pub marked : List ℕ → ℕ → List ℕ
marked met queue = if eqb queue 0 then met else set met queue 3

-- The check

-- whether all is well so far, and what was met
abbrev pub outcome : Bool → List ℕ → Walk
outcome r met = if r then well met else flaw

-- a core's own words, and its running process, which is met first
abbrev pub core_enters : List ℕ → ℕ → ℕ → List ℕ → Walk
core_enters t N k met = if core_fits t N k then meet_running t N k met else flaw

-- what the header leaves to check: cores, processes and channels
unfoldable pub parts_fit : List ℕ → ℕ → ℕ → ℕ → Bool
parts_fit t K N M = rest_fits t K N M (cores_walk t K N 0 K (replicate 257 0))
