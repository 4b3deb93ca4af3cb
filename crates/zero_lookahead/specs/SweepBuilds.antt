-- The trees' last builds, node by node: when a node sends, its own may change, and no other.
use Rattle.std.specs.Prelude.{ℕ, zero, suc, ◌+◌, ◌≤◌, ◌<◌, ◌≡◌, refl, Bool, true, false, ◌⊎◌, List, [], ◌∷◌, Float, length, get_or, set}
use Rattle.std.proofs.Math.Decide.{dec_lt, ℕ_discrete}
use Rattle.std.proofs.Common.{arith, sym, ap, ◌∙◌, inl, inr, length-set, ext_get_or, get_or-set_same, get_or-set_other}
use Rattle.std.proofs.Math.Logic.{by_cases}
use Rattle.std.proofs.Math.Option.{none}
use Rattle.std.specs.Float.{nan}
use Rattle.definition.specs.Vectors.{Message}
use Rattle.definition.specs.Directions.{Direction, MessageNode, MessageGraph, no_message_node, node_at, messages_in}
use Rattle.definition.specs.Messages.{LastBuild}
use Rattle.list_laws.specs.Put.{put, region-out}
use Rattle.messages.specs.Layout.{cut, width}
use Rattle.messages.specs.LayoutOffsets.{offset_at, offset_mono, span_at, span-end, span_room}
use Rattle.messages.specs.LayoutCut.{row_in, directions_in, length-row_in, messages_in-cut}
use Rattle.messages.specs.LayoutOrder.{firsts_at, InOrder, firsts_mono, inside}
use Rattle.messages.specs.LayoutWrite.{length-put_in}
use Rattle.messages.specs.State.{build_of, builds_of}
use Rattle.sweeps.specs.SweepNode.{built_in, flag_after}

pub length_builds : (xs : List MessageNode) (fs : List ℕ) (ms : List Message) → length fs ≡ length xs → length (builds_of xs fs ms) ≡ length xs
length_builds [] fs ms h = refl
length_builds (x ∷ xs) [] ms h = absurd (let z : ⊥ = omega arith in z)
length_builds (x ∷ xs) (f ∷ fs) ms h = ap suc (length_builds xs fs ms (omega arith))

pub builds_at : (xs : List MessageNode) (fs : List ℕ) (ms : List Message) (i : ℕ) → length fs ≡ length xs → i < length xs → get_or (builds_of xs fs ms) i none ≡ build_of (get_or fs i 0) (get_or xs i no_message_node) ms
builds_at [] fs ms i h q = absurd (let z : ⊥ = omega arith in z)
builds_at (x ∷ xs) [] ms i h q = absurd (let z : ⊥ = omega arith in z)
builds_at (x ∷ xs) (f ∷ fs) ms zero h q = refl
builds_at (x ∷ xs) (f ∷ fs) ms (suc i) h q = builds_at xs fs ms i (omega arith) (omega arith)

same-build : (f : ℕ) (x : MessageNode) (ms ns : List Message) → messages_in x ms ≡ messages_in x ns → ◌≡◌ {A = LastBuild} (build_of f x ms) (build_of f x ns)
same-build zero x ms ns e = refl
same-build (suc f) x ms ns e = cc

module _ (t : MessageGraph) (O : InOrder t) (n : ℕ) (h : n < length t.nodes) (r_in r_build : List Float) (ein : length r_in ≡ width t.directions) (eb : length r_build ≡ width t.directions) where
  abbrev ds : List Direction
  ds = t.directions

  abbrev at : ℕ → ℕ
  at i = offset_at t.directions (node_at t i).first_incoming

  abbrev span : ℕ → ℕ
  span i = span_at t.directions (node_at t i).first_incoming (length (node_at t i).outgoing)

  pub length-built : (anew : Bool) → length (built_in anew t n r_in r_build) ≡ width t.directions
  length-built true = length-put_in ds r_in r_build (node_at t n) ein eb (inside t O n)
  length-built false = eb

  -- what two nodes hold lies apart
  before : (i j : ℕ) → i < j → j < length t.nodes → at i + span i ≤ at j
  before i j q k =
      let l : i < length t.nodes = omega arith in
      let m = firsts_mono t O (suc i) j q (omega arith) in
      omega (
        arith,
        span-end ds (node_at t i).first_incoming (length (node_at t i).outgoing) (inside t O i),
        offset_mono ds ((node_at t i).first_incoming + length (node_at t i).outgoing) (node_at t j).first_incoming (omega (arith, m, O.after i l, firsts_at t i l, firsts_at t j k)) (omega (arith, inside t O j)),
      )

  held_elsewhere : (anew : Bool) (i : ℕ) → i < length t.nodes → (i ≡ n → ⊥) → messages_in (node_at t i) (cut ds (built_in anew t n r_in r_build)) ≡ messages_in (node_at t i) (cut ds r_build)
  held_elsewhere false i q z = refl
  held_elsewhere true i q z =
      let row = row_in (node_at t n) ds r_in in
      let long = length-row_in (node_at t n) ds r_in (inside t O n) ein in
      let apart : (at i + span i ≤ at n) ⊎ (at n + length row ≤ at i) =
      by_cases (dec_lt i n) (λ (y : i < n). inl (before i n y h)) (λ y. inr (let v : n < i = above i n z y in omega (arith, long, before n i v q))) in
      messages_in-cut (node_at t i) ds (put r_build (at n) row) (inside t O i)
      ∙ ap (cut (directions_in (node_at t i) ds))
      (region-out nan r_build (at n) row (at i) (span i) (omega (arith, long, span_room ds (node_at t n).first_incoming (length (node_at t n).outgoing) (inside t O n)))
      (omega (arith, span_room ds (node_at t i).first_incoming (length (node_at t i).outgoing) (inside t O i))) apart)
      ∙ sym (messages_in-cut (node_at t i) ds r_build (inside t O i))
    where
      above : (i n : ℕ) → (i ≡ n → ⊥) → (i < n → ⊥) → n < i
      above i n z y = by_cases (dec_lt n i) (λ (v : n < i). v) (λ v. absurd (z (let u : i ≡ n = omega arith in u)))

  -- the list afterwards
  pub built-next : (anew : Bool) (fs : List ℕ) → length fs ≡ length t.nodes → builds_of t.nodes (set fs n (flag_after anew (get_or fs n 0))) (cut t.directions (built_in anew t n r_in r_build))
      ≡ set (builds_of t.nodes fs (cut t.directions r_build)) n (build_of (flag_after anew (get_or fs n 0)) (node_at t n) (cut t.directions (built_in anew t n r_in r_build)))
  built-next anew fs e =
      let v = flag_after anew (get_or fs n 0) in
      let gs = set fs n v in
      let ms = cut ds r_build in
      let ns = cut ds (built_in anew t n r_in r_build) in
      let bs = builds_of t.nodes fs ms in
      let y = build_of v (node_at t n) ns in
      let g : length gs ≡ length t.nodes = length-set fs n v ∙ e in
      let l : length (builds_of t.nodes gs ns) ≡ length t.nodes = length_builds t.nodes gs ns g in
      let k : length bs ≡ length t.nodes = length_builds t.nodes fs ms e in
      ext_get_or none (builds_of t.nodes gs ns) (set bs n y) (l ∙ sym (length-set bs n y ∙ k))
      (λ i q.
      let j : i < length t.nodes = omega arith in
      builds_at t.nodes gs ns i g j
      ∙ by_cases (ℕ_discrete i n)
      (λ (z : i ≡ n).
      ap (λ (a : ℕ). build_of (get_or gs a 0) (node_at t a) ns) z ∙ ap (λ (a : ℕ). build_of a (node_at t n) ns) (get_or-set_same fs n v 0 (omega arith))
      ∙ sym (get_or-set_same bs n y none (omega arith)) ∙ ap (λ (a : ℕ). get_or (set bs n y) a none) (sym z))
      (λ z.
      ap (λ (a : ℕ). build_of a (node_at t i) ns) (get_or-set_other fs n i v 0 z)
      ∙ same-build (get_or fs i 0) (node_at t i) ns ms (held_elsewhere anew i j z)
      ∙ sym (builds_at t.nodes fs ms i e j)
      ∙ sym (get_or-set_other bs n i y none z)))
