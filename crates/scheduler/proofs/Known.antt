-- What is known of a core with nothing running.
use Prim.Native.Nat.{ℕ, ◌≤◌, ◌<◌}
use mathlib.Core.Path.{◌≡◌, sym, ap}
use mathlib.Core.List.{List, [], ◌∷◌}
use native.Mathlib.Omega.{arith}
use lib.Dec.{lit<}
use lib.ListN.{length, get_or}
use Rattle.rules.specs.Lists.{first}
use Rattle.rules.specs.State.{Task}
use Rattle.rules.specs.Items.{core_of}
use Rattle.rules.specs.Layout.{core_stride, core_at, core_first}
use Rattle.rules.specs.Packing.{view, word_at}
use Rattle.packing.specs.Queues.{Queued}
use Rattle.packing.proofs.ReadLaws.{core_list}
use Rattle.table.specs.Has.{HasCore}
use Rattle.parts.proofs.Card.{card_inside, card_order, card_core}
use Rattle.parts.proofs.Packs.{Packs, card_packs, core_read}
use Rattle.scheduler.specs.Free.{Free}

-- a list with a first number begins with it
begins : (l : List ℕ) (p : ℕ) → p ≡ first l → 1 ≤ p → (rest : List ℕ) × (l ≡ p ∷ rest)
begins [] p e h = absurd (omega arith)
begins (x ∷ rest) p e h = (rest, ap (λ (q : ℕ). q ∷ rest) (sym e))

module _ {t : List ℕ} {cores processes k : ℕ} {x : Task} (free : Free t cores processes k x) where
  pub free_packs : Packs t cores processes (view t)
  free_packs = card_packs free.card

  pub free_inside : k < length (view t).cores
  free_inside = card_inside free.card

  pub free_order : Queued (view t)
  free_order = card_order free.card

  -- a word of the core
  pub free_read : (f : ℕ) → f < core_stride → word_at t (core_at k f) ≡ get_or (core_list (core_of (view t) k)) f 0
  free_read = core_read free_packs k free_inside

  -- the words of the core are there
  pub free_core : HasCore t k
  free_core = card_core t cores processes k free.card

  -- the active queue begins with the process that is read
  pub queue : 1 ≤ word_at t (core_at k core_first) → (rest : List ℕ) × ((core_of (view t) k).active ≡ word_at t (core_at k core_first) ∷ rest)
  queue head = begins (core_of (view t) k).active (word_at t (core_at k core_first)) (free_read core_first (lit< tt)) head
