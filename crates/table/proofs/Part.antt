-- A part of a table that holds other words has had them set one by one.
use Rattle.std.proofs.Common.{ℕ, ◌+◌, ◌≤◌, ◌≡◌, List, length, drop, take, sym, ap, ◌∙◌, ◌++◌, append_assoc, drop-drop, replicate, arith, length-drop, length-take-le}
use Rattle.std.proofs.lemmas.List.{length-replicate}
use Rattle.std.proofs.lemmas.List.Edits.{sets, sets-eq}
use borrow.Rule.Slice.PartMut.{put_mid}

pub part_set : (t words : List ℕ) (at n : ℕ) → n ≡ length words → at + length words ≤ length t → put_mid at n t words ≡ sets t at words
part_set t words at n e fits = rw e (ap (λ (rest : List ℕ). take at t ++ (words ++ rest)) (drop-drop (length words) at t) ∙ sym (append_assoc (take at t) words (drop (at + length words) t)) ∙ sym (sets-eq words t at fits))

-- and one that is filled with zeros, as many as it had words
pub part_zeroed : (t : List ℕ) (at n k m : ℕ) → k ≡ n → m ≡ length (take k (drop at t)) → at + n ≤ length t
    → put_mid at k t (replicate m 0) ≡ sets t at (replicate n 0)
part_zeroed t at n k m e e' fits =
    let left = length-drop at t in
    let many : m ≡ n = omega (arith, length-take-le k (drop at t) (omega arith)) in
    let size = length-replicate {A = ℕ} n 0 in
    rw many (part_set t (replicate n 0) at k (omega arith) (omega arith))
