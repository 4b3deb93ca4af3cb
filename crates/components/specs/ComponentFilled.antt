-- A range that std filled with 0, as a list that is written.
use borrow.Rule.Slice.PartMut.{put_mid}
use Rattle.std.specs.Prelude.{◌≡◌, List, ◌++◌, ℕ, ◌+◌, ◌≤◌, length, take, drop, replicate}
use Rattle.std.proofs.Common.{sym, ap, ◌∙◌, arith}
use Rattle.std.proofs.lemmas.List.{length-replicate, get_or-replicate}
use Rattle.list_laws.specs.Write.{write}
use Rattle.list_laws.specs.Part.{length-region}
use Rattle.list_laws.specs.Put.{put-part}
use Rattle.list_laws.specs.PutMore.{write-put}

pub filled : (w y : List ℕ) (at k n : ℕ) → k ≡ n → at + n ≤ length w → y ≡ replicate (length (take k (drop at w))) 0 → put_mid at k w y ≡ write w at n (λ j. 0)
filled w y at k n e fits q =
    let z : List ℕ = replicate n 0 in
    let lz : length z ≡ n = length-replicate n 0 in
    let f : y ≡ z = q ∙ ap (λ (i : ℕ). replicate (length (take i (drop at w))) 0) e ∙ ap (λ (i : ℕ). replicate i 0) (length-region w at n fits) in
    ap (λ (i : ℕ). take at w ++ (y ++ drop i (drop at w))) e
    ∙ ap (λ (u : List ℕ). take at w ++ (u ++ drop n (drop at w))) f
    ∙ put-part w z at n lz
    ∙ sym (write-put 0 w at z (λ j. 0) (omega arith) (λ j h. sym (get_or-replicate n j 0 0 (omega arith))))
    ∙ ap (λ (i : ℕ). write w at i (λ j. 0)) lz
