-- A table as words by regions: header, cores, processes, channels. What a table holds at each address, and that it is determined by what
-- it holds.
use Prim.Native.Nat.{ℕ, ◌+◌, ◌-◌, ◌/◌, ◌%◌, ◌≤◌, ◌<◌}
use mathlib.Core.Path.{◌≡◌, refl, sym, ◌∙◌, subst}
use mathlib.Core.Bool.{Bool, true, false}
use mathlib.Core.List.{List}
use native.Mathlib.Omega.{arith}
use lib.Dec.{ltb}
use lib.ListN.{length, get_or}
use lib.Seq.{ext_get_or}
use borrow.Author.Tests.{ltb-true, ltb-false}
use Rattle.rules.specs.Layout.{header_size, core_stride, process_stride, channel_stride, processes_at, channels_at, core_at, process_at, channel_at, room}

-- how many cores, processes and channels
pub record Dims : Type 0 where
  pub K : ℕ
  pub N : ℕ
  pub M : ℕ

-- the word f of the header, of core k, of process p, of channel c
pub record Words : Type 0 where
  pub header : ℕ → ℕ
  pub core : ℕ → ℕ → ℕ
  pub process : ℕ → ℕ → ℕ
  pub channel : ℕ → ℕ → ℕ

-- the table t holds the words w
pub record Holds (d : Dims) (w : Words) (t : List ℕ) : Type 0 where
  pub size : length t ≡ room d.K d.N d.M
  pub header : (f : ℕ) → f < header_size → get_or t f 0 ≡ w.header f
  pub core : (k f : ℕ) → k < d.K → f < core_stride → get_or t (core_at k f) 0 ≡ w.core k f
  pub process : (p f : ℕ) → 1 ≤ p → p ≤ d.N → f < process_stride → get_or t (process_at d.K p f) 0 ≡ w.process p f
  pub channel : (c f : ℕ) → 1 ≤ c → c ≤ d.M → f < channel_stride → get_or t (channel_at d.K d.N c f) 0 ≡ w.channel c f

-- two words by regions are the same wherever a table has them
pub record Same (d : Dims) (v w : Words) : Type 0 where
  pub header : (f : ℕ) → f < header_size → v.header f ≡ w.header f
  pub core : (k f : ℕ) → k < d.K → f < core_stride → v.core k f ≡ w.core k f
  pub process : (p f : ℕ) → 1 ≤ p → p ≤ d.N → f < process_stride → v.process p f ≡ w.process p f
  pub channel : (c f : ℕ) → 1 ≤ c → c ≤ d.M → f < channel_stride → v.channel c f ≡ w.channel c f

-- A table is determined by the words that it holds.
pub held_once : (d : Dims) (v w : Words) (t u : List ℕ) → Holds d v t → Holds d w u → Same d v w → t ≡ u
held_once d v w t u h g e = ext_get_or 0 t u (h.size ∙ sym g.size) each
  where
    at_channel : (i : ℕ) → channels_at d.K d.N ≤ i → i < room d.K d.N d.M → get_or t i 0 ≡ get_or u i 0
    at_channel i low high =
        let c : ℕ = (i - channels_at d.K d.N) / channel_stride + 1 in
        let f : ℕ = (i - channels_at d.K d.N) % channel_stride in
        let here : channel_at d.K d.N c f ≡ i = omega arith in
        let b : c ≤ d.M = omega arith in
        subst (λ (a : ℕ). get_or t a 0 ≡ get_or u a 0) here
        (h.channel c f (omega arith) b (omega arith) ∙ e.channel c f (omega arith) b (omega arith) ∙ sym (g.channel c f (omega arith) b (omega arith)))

    at_process : (i : ℕ) → processes_at d.K ≤ i → i < channels_at d.K d.N → get_or t i 0 ≡ get_or u i 0
    at_process i low high =
        let p : ℕ = (i - processes_at d.K) / process_stride + 1 in
        let f : ℕ = (i - processes_at d.K) % process_stride in
        let here : process_at d.K p f ≡ i = omega arith in
        let b : p ≤ d.N = omega arith in
        subst (λ (a : ℕ). get_or t a 0 ≡ get_or u a 0) here
        (h.process p f (omega arith) b (omega arith) ∙ e.process p f (omega arith) b (omega arith) ∙ sym (g.process p f (omega arith) b (omega arith)))

    at_core : (i : ℕ) → header_size ≤ i → i < processes_at d.K → get_or t i 0 ≡ get_or u i 0
    at_core i low high =
        let k : ℕ = (i - header_size) / core_stride in
        let f : ℕ = (i - header_size) % core_stride in
        let here : core_at k f ≡ i = omega arith in
        let b : k < d.K = omega arith in
        subst (λ (a : ℕ). get_or t a 0 ≡ get_or u a 0) here
        (h.core k f b (omega arith) ∙ e.core k f b (omega arith) ∙ sym (g.core k f b (omega arith)))

    third : (i : ℕ) → i < room d.K d.N d.M → processes_at d.K ≤ i → (x : Bool) → ltb i (channels_at d.K d.N) ≡ x → get_or t i 0 ≡ get_or u i 0
    third i high low true q = at_process i low (ltb-true _ _ q)
    third i high low false q = at_channel i (ltb-false _ _ q) high

    second : (i : ℕ) → i < room d.K d.N d.M → header_size ≤ i → (x : Bool) → ltb i (processes_at d.K) ≡ x → get_or t i 0 ≡ get_or u i 0
    second i high low true q = at_core i low (ltb-true _ _ q)
    second i high low false q = third i high (ltb-false _ _ q) (ltb i (channels_at d.K d.N)) refl

    first : (i : ℕ) → i < room d.K d.N d.M → (x : Bool) → ltb i header_size ≡ x → get_or t i 0 ≡ get_or u i 0
    first i high true q = let l : i < header_size = ltb-true _ _ q in h.header i l ∙ e.header i l ∙ sym (g.header i l)
    first i high false q = second i high (ltb-false _ _ q) (ltb i (processes_at d.K)) refl

    each : (i : ℕ) → i < length t → get_or t i 0 ≡ get_or u i 0
    each i l = first i (subst (λ (m : ℕ). i < m) h.size l) (ltb i header_size) refl
