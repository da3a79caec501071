-- What a request says: BUSY, GUARDS, CHANNEL, OTHER_END or TWICE exactly where its case is the first given.
use Rattle.std.specs.Prelude.{if◌then◌else◌}
use Prim.Native.Nat.{ℕ, zero, suc}
use mathlib.Core.Path.{◌≡◌, refl, ap}
use mathlib.Core.Bool.{Bool, true, false, not}
use mathlib.Core.List.{List, [], ◌∷◌}
use lib.Dec.{eqb}
use lib.ListN.{length, length-map, get_or-map}
use Rattle.rules.specs.Lists.{within, member}
use Rattle.rules.specs.Numbers.{Answer, Refusal, BUSY, GUARDS, CHANNEL, OTHER_END, TWICE}
use Rattle.rules.specs.State.{Way, sending, receiving, Progress, nothing, doing, due, Work, runs, free, Channel, State, users, at_end, end_of}
use Rattle.rules.specs.Items.{no_channel, process_of, channel_of}
use Rattle.rules.specs.Rule.{Rule, run, ◌>>=◌, ◌>>◌}
use Rattle.rules.specs.Requests.{Request, send, receive, choose, yield, end, unless, nothing_in_hand, requester, proper_end, proper_guards, asks}
use Rattle.rules.specs.Refusals.{Case, ◌when◌, in_hand, end_cases, guard_cases, asked_cases, request_cases}
use Rattle.rules.proofs.Laws.Says.{Says, said}

-- what the rule of a request says from a state
abbrev pub RequestSays : Rule Answer → State → List Case → Type 0
RequestSays r s cases = Says (1 ∷ []) (said (run r s)) cases

module _ (s : State) (p : ℕ) where
  -- who is at an end of channel c
  wired_end : (way : Way) (c : ℕ) → end_of (users s) way c ≡ at_end way (channel_of s c).ends
  wired_end way zero = refl
  wired_end way (suc c) = ap (at_end way) (get_or-map (λ (x : Channel). x.ends) s.channels c no_channel)

  module _ (r : Rule Answer) where
    -- past a test
    test_says : (b : Bool) (why : Refusal) (cases : List Case) → RequestSays r s cases → RequestSays (unless b why >> r) s (why when not b ∷ cases)
    test_says true why cases h = h
    test_says false why cases h = refl

    -- past the tests of an end
    end_says : (way : Way) (c : ℕ) → RequestSays r s []
        → RequestSays (proper_end (users s) way p c >> r) s (end_cases s c (at_end way (channel_of s c).ends) p)
    end_says way c h =
        rw (length-map s.channels (λ (x : Channel). x.ends), wired_end way c)
        (by_tests (within 1 (length s.channels) c) (eqb (at_end way (channel_of s c).ends) p))
      where
        by_tests : (a b : Bool)
            → RequestSays ((unless a CHANNEL >> unless b OTHER_END) >> r) s (CHANNEL when not a ∷ OTHER_END when not b ∷ [])
        by_tests true true = h
        by_tests true false = refl
        by_tests false b = refl

    -- past the tests of the guards
    guards_say : (earlier gs : List ℕ) → RequestSays r s []
        → RequestSays (proper_guards (users s) p earlier gs >> r) s (guard_cases s p earlier gs)
    guards_say earlier [] h = h
    guards_say earlier (c ∷ gs) h =
        rw (length-map s.channels (λ (x : Channel). x.ends), wired_end receiving c)
        (by_tests (within 1 (length s.channels) c) (eqb (channel_of s c).ends.reader p) (member c earlier)
        (guards_say (c ∷ earlier) gs h))
      where
        rest : Rule (Unit {0})
        rest = proper_guards (users s) p (c ∷ earlier) gs

        later : List Case
        later = guard_cases s p (c ∷ earlier) gs

        by_tests : (a b d : Bool) → RequestSays (rest >> r) s later
            → RequestSays (((unless a CHANNEL >> unless b OTHER_END) >> (unless (if d then false else true) TWICE >> rest)) >> r) s
            (CHANNEL when not a ∷ OTHER_END when not b ∷ TWICE when d ∷ later)
        by_tests true true true says = refl
        by_tests true true false says = says
        by_tests true false d says = refl
        by_tests false b d says = refl

  -- each request of a process with nothing in hand
  asks_says : (k : ℕ) (r : Request) → RequestSays (asks (users s) k p r) s (asked_cases s p r)
  asks_says k (send c v) = end_says _ sending c tt
  asks_says k (receive c) = end_says _ receiving c tt
  asks_says k (choose gs) = test_says _ (within 1 8 (length gs)) GUARDS (guard_cases s p [] gs) (guards_say _ [] gs tt)
  asks_says k yield = tt
  asks_says k end = tt

  -- whatever it has in hand
  in_hand_says : (k : ℕ) (r : Request) (has : Progress)
      → RequestSays (nothing_in_hand p has >>= λ q. asks (users s) k q r) s (BUSY when in_hand has ∷ asked_cases s p r)
  in_hand_says k r nothing = asks_says k r
  in_hand_says k r (doing x) = refl
  in_hand_says k r (due o) = refl

-- a request, by the core's work
pub requester_says : (s : State) (k : ℕ) (r : Request) (w : Work)
    → RequestSays (requester w >>= λ q. asks (users s) k q r) s (request_cases s w r)
requester_says s k r (runs p) = in_hand_says s p k r (process_of s p).progress
requester_says s k r (free x) = refl
