-- `listing::lines::put_ending` meets its contract.
use mathlib.Core.Path.{◌≡◌, ap, subst}
use mathlib.Core.List.{◌∷◌}
use Prim.Native.Nat.{ℕ}
use Rattle.definition.specs.Run.{Ending, limit, settled, empty}
use Rattle.definition.specs.Text.{ascii}
use Rattle.definition.specs.Listing.{decimal, part_fields}
use Rattle.listing.specs.Writing.{Fields, all_fields, next_field, last-field, left-last, field_fits}
use Rattle.claims.specs.CallByParts.{ending_of}
use Rattle.listing.specs.Lines.{head_line, ending-empty, before-ending}
use Rattle.listing.proofs.lines.put_ending.Goals as goal

pub put_word-k-requires : goal.put_word-k-requires
unfolding ascii
put_word-k-requires c =
    let ending : Ending = ending_of c.args.ending c.args.residual in
    let start : let a = c.args in Fields a.out.now a.at (head_line a.number ending a.steps) a.out.now a.at (ascii "part" ∷ decimal a.number ∷ part_fields ending (decimal a.steps)) = all_fields c.args.out.now c.args.at _ c.requires.steps_in_bounds in
    field_fits start

pub put_number-k-requires : goal.put_number-k-requires
unfolding ascii
put_number-k-requires c =
    let ending : Ending = ending_of c.args.ending c.args.residual in
    let start : let a = c.args in Fields a.out.now a.at (head_line a.number ending a.steps) a.out.now a.at (ascii "part" ∷ decimal a.number ∷ part_fields ending (decimal a.steps)) = all_fields c.args.out.now c.args.at _ c.requires.steps_in_bounds in
    field_fits (next_field start c.put_word-k.ensures)

pub put_residual-requires : goal.put_residual-requires
unfolding ascii part_fields
put_residual-requires c =
    let ending : Ending = ending_of c.args.ending c.args.residual in
    let start : let a = c.args in Fields a.out.now a.at (head_line a.number ending a.steps) a.out.now a.at (ascii "part" ∷ decimal a.number ∷ part_fields ending (decimal a.steps)) = all_fields c.args.out.now c.args.at _ c.requires.steps_in_bounds in
    let tested : (e : Ending) → ending ≡ e → let a = c.args in let n = c.put_number-k in Fields a.out.now a.at (head_line a.number ending a.steps) n.new.out n.result (part_fields e (decimal a.steps)) = λ e q. let a = c.args in let n = c.put_number-k in subst (λ (x : Ending). Fields a.out.now a.at (head_line a.number ending a.steps) n.new.out n.result (part_fields x (decimal a.steps))) q (before-ending ending (decimal c.args.steps) (next_field start c.put_word-k.ensures) n.ensures) in
    let limit_is : c.args.ending ≡ 0 → ending ≡ limit c.args.residual = λ e. ap (λ (n : ℕ). ending_of n c.args.residual) e in
    record { t = c.requires.t; residual_in_bounds = (tested _ (limit_is c.if-ending-eq0.true)).left.fits }

pub returns-then-ending-eq0 : goal.returns-then-ending-eq0
unfolding ascii part_fields
returns-then-ending-eq0 c =
    let ending : Ending = ending_of c.args.ending c.args.residual in
    let start : let a = c.args in Fields a.out.now a.at (head_line a.number ending a.steps) a.out.now a.at (ascii "part" ∷ decimal a.number ∷ part_fields ending (decimal a.steps)) = all_fields c.args.out.now c.args.at _ c.requires.steps_in_bounds in
    let tested : (e : Ending) → ending ≡ e → let a = c.args in let n = c.put_number-k in Fields a.out.now a.at (head_line a.number ending a.steps) n.new.out n.result (part_fields e (decimal a.steps)) = λ e q. let a = c.args in let n = c.put_number-k in subst (λ (x : Ending). Fields a.out.now a.at (head_line a.number ending a.steps) n.new.out n.result (part_fields x (decimal a.steps))) q (before-ending ending (decimal c.args.steps) (next_field start c.put_word-k.ensures) n.ensures) in
    let limit_is : c.args.ending ≡ 0 → ending ≡ limit c.args.residual = λ e. ap (λ (n : ℕ). ending_of n c.args.residual) e in
    left-last (tested _ (limit_is c.if-ending-eq0.true)).left c.put_residual.ensures

pub put_residual-requires-then-ending-eq1 : goal.put_residual-requires-then-ending-eq1
unfolding ascii part_fields
put_residual-requires-then-ending-eq1 c =
    let ending : Ending = ending_of c.args.ending c.args.residual in
    let start : let a = c.args in Fields a.out.now a.at (head_line a.number ending a.steps) a.out.now a.at (ascii "part" ∷ decimal a.number ∷ part_fields ending (decimal a.steps)) = all_fields c.args.out.now c.args.at _ c.requires.steps_in_bounds in
    let tested : (e : Ending) → ending ≡ e → let a = c.args in let n = c.put_number-k in Fields a.out.now a.at (head_line a.number ending a.steps) n.new.out n.result (part_fields e (decimal a.steps)) = λ e q. let a = c.args in let n = c.put_number-k in subst (λ (x : Ending). Fields a.out.now a.at (head_line a.number ending a.steps) n.new.out n.result (part_fields x (decimal a.steps))) q (before-ending ending (decimal c.args.steps) (next_field start c.put_word-k.ensures) n.ensures) in
    let settled_is : c.args.ending ≡ 1 → ending ≡ settled c.args.residual = λ e. ap (λ (n : ℕ). ending_of n c.args.residual) e in
    record { t = c.requires.t; residual_in_bounds = (tested _ (settled_is c.if-ending-eq1.true)).left.fits }

pub returns-then-ending-eq1 : goal.returns-then-ending-eq1
unfolding ascii part_fields
returns-then-ending-eq1 c =
    let ending : Ending = ending_of c.args.ending c.args.residual in
    let start : let a = c.args in Fields a.out.now a.at (head_line a.number ending a.steps) a.out.now a.at (ascii "part" ∷ decimal a.number ∷ part_fields ending (decimal a.steps)) = all_fields c.args.out.now c.args.at _ c.requires.steps_in_bounds in
    let tested : (e : Ending) → ending ≡ e → let a = c.args in let n = c.put_number-k in Fields a.out.now a.at (head_line a.number ending a.steps) n.new.out n.result (part_fields e (decimal a.steps)) = λ e q. let a = c.args in let n = c.put_number-k in subst (λ (x : Ending). Fields a.out.now a.at (head_line a.number ending a.steps) n.new.out n.result (part_fields x (decimal a.steps))) q (before-ending ending (decimal c.args.steps) (next_field start c.put_word-k.ensures) n.ensures) in
    let settled_is : c.args.ending ≡ 1 → ending ≡ settled c.args.residual = λ e. ap (λ (n : ℕ). ending_of n c.args.residual) e in
    left-last (tested _ (settled_is c.if-ending-eq1.true)).left c.put_residual-then-ending-eq1.ensures

pub put_word-k-requires-2 : goal.put_word-k-requires-2
unfolding ascii part_fields
put_word-k-requires-2 c =
    let ending : Ending = ending_of c.args.ending c.args.residual in
    let start : let a = c.args in Fields a.out.now a.at (head_line a.number ending a.steps) a.out.now a.at (ascii "part" ∷ decimal a.number ∷ part_fields ending (decimal a.steps)) = all_fields c.args.out.now c.args.at _ c.requires.steps_in_bounds in
    let tested : (e : Ending) → ending ≡ e → let a = c.args in let n = c.put_number-k in Fields a.out.now a.at (head_line a.number ending a.steps) n.new.out n.result (part_fields e (decimal a.steps)) = λ e q. let a = c.args in let n = c.put_number-k in subst (λ (x : Ending). Fields a.out.now a.at (head_line a.number ending a.steps) n.new.out n.result (part_fields x (decimal a.steps))) q (before-ending ending (decimal c.args.steps) (next_field start c.put_word-k.ensures) n.ensures) in
    let empty-is : (c.args.ending ≡ 0 → ⊥) → (c.args.ending ≡ 1 → ⊥) → ending ≡ empty = λ h k. ending-empty c.args.ending c.args.residual h k in
    field_fits (tested _ (empty-is c.if-ending-eq0.false c.if-ending-eq1.false))

pub put_number-requires : goal.put_number-requires
unfolding ascii part_fields
put_number-requires c =
    let ending : Ending = ending_of c.args.ending c.args.residual in
    let start : let a = c.args in Fields a.out.now a.at (head_line a.number ending a.steps) a.out.now a.at (ascii "part" ∷ decimal a.number ∷ part_fields ending (decimal a.steps)) = all_fields c.args.out.now c.args.at _ c.requires.steps_in_bounds in
    let tested : (e : Ending) → ending ≡ e → let a = c.args in let n = c.put_number-k in Fields a.out.now a.at (head_line a.number ending a.steps) n.new.out n.result (part_fields e (decimal a.steps)) = λ e q. let a = c.args in let n = c.put_number-k in subst (λ (x : Ending). Fields a.out.now a.at (head_line a.number ending a.steps) n.new.out n.result (part_fields x (decimal a.steps))) q (before-ending ending (decimal c.args.steps) (next_field start c.put_word-k.ensures) n.ensures) in
    let empty-is : (c.args.ending ≡ 0 → ⊥) → (c.args.ending ≡ 1 → ⊥) → ending ≡ empty = λ h k. ending-empty c.args.ending c.args.residual h k in
    field_fits (next_field (tested _ (empty-is c.if-ending-eq0.false c.if-ending-eq1.false)) c.put_word-k-2.ensures)

pub returns : goal.returns
unfolding ascii part_fields
returns c =
    let ending : Ending = ending_of c.args.ending c.args.residual in
    let start : let a = c.args in Fields a.out.now a.at (head_line a.number ending a.steps) a.out.now a.at (ascii "part" ∷ decimal a.number ∷ part_fields ending (decimal a.steps)) = all_fields c.args.out.now c.args.at _ c.requires.steps_in_bounds in
    let tested : (e : Ending) → ending ≡ e → let a = c.args in let n = c.put_number-k in Fields a.out.now a.at (head_line a.number ending a.steps) n.new.out n.result (part_fields e (decimal a.steps)) = λ e q. let a = c.args in let n = c.put_number-k in subst (λ (x : Ending). Fields a.out.now a.at (head_line a.number ending a.steps) n.new.out n.result (part_fields x (decimal a.steps))) q (before-ending ending (decimal c.args.steps) (next_field start c.put_word-k.ensures) n.ensures) in
    let empty-is : (c.args.ending ≡ 0 → ⊥) → (c.args.ending ≡ 1 → ⊥) → ending ≡ empty = λ h k. ending-empty c.args.ending c.args.residual h k in
    last-field (next_field (tested _ (empty-is c.if-ending-eq0.false c.if-ending-eq1.false)) c.put_word-k-2.ensures) c.put_number.ensures
