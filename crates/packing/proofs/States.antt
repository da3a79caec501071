-- States with another record: how many there are of each, and when a table is the packing of one.
use Prim.Native.Nat.{ℕ}
use mathlib.Core.Path.{◌≡◌, sym, ap, subst}
use mathlib.Core.List.{List, ◌∷◌}
use lib.ListN.{length, length-set}
use Rattle.rules.specs.State.{Process, State}
use Rattle.rules.specs.Items.{Region, cores, processes, channels, Record, with_record}
use Rattle.rules.specs.Layout.{header_size, header_spare}
use Rattle.rules.specs.Packing.{spare, header_words, pack}
use Rattle.rules.proofs.Nth.{length_set_nth}
use Rattle.rules.proofs.Packing.Regions.{Dims, Words, Holds, Same, held_once}
use Rattle.rules.proofs.Packing.Blocks.{dims, words_of, pack_holds}

-- the state with another process of number p
abbrev pub with_process : ℕ → Process → State → State
with_process p r s = with_record processes p r s

-- there are as many cores, processes and channels with another record
pub dims_record : (g : Region) (n : ℕ) (r : Record g) (s : State) → dims (with_record g n r s) ≡ dims s
dims_record cores k c s = ap (λ (n : ℕ). record { K = n; N = length s.processes; M = length s.channels }) (length-set s.cores k c)
dims_record processes p r s =
    ap (λ (n : ℕ). record { K = length s.cores; N = n; M = length s.channels }) (length_set_nth s.processes p r)
dims_record channels c r s =
    ap (λ (n : ℕ). record { K = length s.cores; N = length s.processes; M = n }) (length_set_nth s.channels c r)

-- a table that holds the words of a state is its packing
pub packed : (s s' : State) (w : Words) (t : List ℕ) → dims s' ≡ dims s → Holds (dims s) w t → Same (dims s) w (words_of s') → t ≡ pack s'
packed s s' w t e h same =
    held_once (dims s) w (words_of s') t (pack s') h (subst (λ (d : Dims). Holds d (words_of s') (pack s')) e (pack_holds s')) same

-- the header has only the numbers of cores, processes and channels
pub same_header : (s s' : State) → dims s' ≡ dims s → header_words s ≡ header_words s'
unfolding header_words
same_header s s' e = ap (λ (d : Dims). d.K ∷ d.N ∷ d.M ∷ spare header_size header_spare) (sym e)
