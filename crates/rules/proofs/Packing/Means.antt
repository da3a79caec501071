-- What the packing means: the claims on the whole of it, put together.
use mathlib.Core.Path.{◌≡◌, sym, ap, ◌∙◌}
use native.Mathlib.Nat.{zero-add}
use lib.Dec.{T}
use Rattle.rules.specs.Lists.{same_words}
use Rattle.rules.specs.State.{State}
use Rattle.rules.specs.Items.{no_core, no_process, no_channel}
use Rattle.rules.specs.Packing.{pack, view_core, view_process, view_channel, view}
use Rattle.rules.specs.Soundness.{valid, sound}
use Rattle.rules.specs.Claims.{ViewOfPack, OnePacking, SoundMeans, PackingLength}
use Rattle.rules.proofs.Tabulate.{tabulate_back, tabulate_nth}
use Rattle.rules.proofs.Tests.{both, together, same_words_means, same_words_refl}
use Rattle.rules.proofs.Packing.Blocks.{pack_holds}
use Rattle.rules.proofs.Packing.Reflect.{valid_means}
use Rattle.rules.proofs.Packing.Reading.{header_of_pack}
use Rattle.rules.proofs.Packing.ViewCore.{view_core_back}
use Rattle.rules.proofs.Packing.ViewProcess.{view_process_back}
use Rattle.rules.proofs.Packing.ViewChannel.{view_channel_back}

-- What is read out of the packing of a valid state is that state.
pub view_of_pack : ViewOfPack
unfolding view
view_of_pack s h =
    let t = pack s in
    let v = valid_means s h in
    let n = header_of_pack s in
    let cores = tabulate_back (view_core t) 0 _ no_core s.cores n.cores (λ k b. rw zero-add (view_core_back s v k b)) in
    let processes = tabulate_nth (view_process t) _ no_process s.processes n.processes (view_process_back s v) in
    let channels = tabulate_nth (view_channel t) _ no_channel s.channels n.channels (view_channel_back s v) in
    λ i. record { cores = cores i; processes = processes i; channels = channels i }

-- Two valid states with one packing are equal.
pub one_packing : OnePacking
one_packing s s' h h' e = sym (view_of_pack s h) ∙ ap view e ∙ view_of_pack s' h'

-- A table is sound exactly when it is the packing of a valid state.
pub sound_means : SoundMeans
unfolding sound
sound_means t = (from_sound, to_sound)
  where
    from_sound : T (sound t) → (s : State) × T (valid s) × (t ≡ pack s)
    from_sound h =
        let p = both (valid (view t)) (same_words (pack (view t)) t) h in
        (view t, p.0, sym (same_words_means (pack (view t)) t p.1))

    to_sound : ((s : State) × T (valid s) × (t ≡ pack s)) → T (sound t)
    to_sound m =
        let packed : t ≡ pack m.0 = m.2 in
        let same : view t ≡ m.0 = ap view packed ∙ view_of_pack m.0 m.1 in
        together (valid (view t)) (same_words (pack (view t)) t) (rw same m.1) (rw (same, ← packed) (same_words_refl t))

-- The packing of a state has exactly T words.
pub packing_length : PackingLength
packing_length s = (pack_holds s).size
