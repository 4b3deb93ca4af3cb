-- A list made of a run of numbers: its entries, its length, and that a loop writes it.
use Rattle.std.specs.Prelude.{◌≡◌, refl, List, map, ℕ, zero, suc, length, get_or}
use Rattle.std.proofs.Common.{sym, ap, ◌∙◌, arith}
use Rattle.list_laws.specs.Write.{write, write_ext}
use Rattle.list_laws.specs.Whole.{whole-written}
use Rattle.definition.specs.Lists.{range}
pub use Rattle.graph_laws.specs.Lists.{count_at}

module _ {A : Type 0} (f : ℕ → A) where
  pub length_count : (i n : ℕ) → length (map f (range i n)) ≡ n
  length_count i zero = refl
  length_count i (suc n) = ap suc (length_count (suc i) n)

-- ---- what is written from the start of a list to its end
module _ {A : Type 0} (f : ℕ → A) (d : A) where
  pub count_written : (l w : List A) (i n : ℕ) → w ≡ write l 0 i f → i ≡ n → length l ≡ n → w ≡ map f (range 0 n)
  count_written l w i n e q h =
      let m = map f (range 0 n) in
      whole-written d l w m i n (e ∙ write_ext l 0 i f (λ k. get_or m k d) (λ k b. sym (count_at f d n k (omega arith)))) q h (length_count f 0 n)
