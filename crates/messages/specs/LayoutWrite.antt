-- Messages that are written are regions of the row that are put: one message, all that a node holds, the messages of a list of directions.
use Rattle.std.specs.Prelude.{ℕ, suc, ◌+◌, ◌≤◌, ◌<◌, ◌≡◌, Float, get_or, set}
use Rattle.std.proofs.Math.Decide.{ℕ_discrete}
use Rattle.std.proofs.Common.{add-zero, sym, ◌∙◌, length-set, get_or-set_same, get_or-set_other}
use native.Mathlib.Omega.{arith}
use Rattle.std.proofs.Math.Path.{refl, ap}
use Rattle.std.proofs.Math.Logic.{by_cases}
use mathlib.Core.List.{List, [], ◌∷◌, ◌++◌, append_assoc}
use Rattle.std.proofs.Math.ListN.{length, take, drop}
use Rattle.std.proofs.lemmas.List.{set_split}
use Rattle.std.proofs.lemmas.List.Edits.{sets}
use Rattle.std.proofs.Math.Seq.{sets-eq}
use Rattle.definition.specs.Lists.{range}
use Rattle.definition.specs.Vectors.{Message}
use Rattle.definition.specs.Directions.{Direction, MessageNode, message_at, messages_in, set_messages, copy_node}
use Rattle.graph_laws.specs.Flat.{flat}
use Rattle.graph_laws.specs.MessageCounts.{message_messages_in}
use Rattle.list_laws.specs.Part.{length-region}
use Rattle.list_laws.specs.Put.{put, length-put}
use Rattle.messages.specs.Layout.{cut, width}
use Rattle.messages.specs.LayoutOffsets.{long_at, offset_at, offset-suc, offset_room, span-end, span_room}
use Rattle.messages.specs.LayoutCut.{SetFits, length_cut, cut_fits, cut_of, cut-long, flat-take, flat-drop, row_in, flat-messages_in, length-row_in}
use Rattle.messages.specs.LayoutPuts.{puts, puts_first, length-puts}

pub flat_append : (ms ns : List Message) → flat (ms ++ ns) ≡ flat ms ++ flat ns
unfolding flat
flat_append [] ns = refl
flat_append (m ∷ ms) ns = ap (λ (l : List Float). m ++ l) (flat_append ms ns) ∙ sym (append_assoc m (flat ms) (flat ns))

-- ---- one message

pub set-fits : (ds : List Direction) (ms : List Message) (d : ℕ) (m : Message) → SetFits ds ms → length m ≡ long_at ds d → SetFits ds (set ms d m)
set-fits ds ms d m F e =
    record {
      count = length-set ms d m ∙ F.count;
      long = (λ k h.
          by_cases (ℕ_discrete k d) (λ (q : k ≡ d). rw q (ap length (get_or-set_same ms d m [] (omega (arith, F.count))) ∙ e))
          (λ q. ap length (get_or-set_other ms d k m [] q) ∙ F.long k h));
    }

pub flat-set : (ds : List Direction) (r : List Float) (d : ℕ) (m : Message) → length r ≡ width ds → d < length ds → length m ≡ long_at ds d → flat (set (cut ds r) d m) ≡ put r (offset_at ds d) m
unfolding flat put
flat-set ds r d m e h k =
    ap flat (set_split (cut ds r) d m (omega (arith, length_cut ds r)))
    ∙ flat_append (take d (cut ds r)) (m ∷ drop (suc d) (cut ds r))
    ∙ ap (λ (l : List Float). l ++ (m ++ flat (drop (suc d) (cut ds r)))) (flat-take ds r d e (omega arith))
    ∙ ap (λ (l : List Float). take (offset_at ds d) r ++ (m ++ l)) (flat-drop ds r (suc d) e (omega arith))
    ∙ ap (λ (n : ℕ). take (offset_at ds d) r ++ (m ++ drop n r)) (let z : offset_at ds (suc d) ≡ offset_at ds d + length m = omega (arith, offset-suc ds d h) in z)

pub cut-put : (ds : List Direction) (r : List Float) (d : ℕ) (m : Message) → length r ≡ width ds → d < length ds → length m ≡ long_at ds d → cut ds (put r (offset_at ds d) m) ≡ set (cut ds r) d m
cut-put ds r d m e h k = sym (cut_of ds (set (cut ds r) d m) (put r (offset_at ds d) m) (set-fits ds (cut ds r) d m (cut_fits ds r e) k) (flat-set ds r d m e h k))

pub length-put-at : (ds : List Direction) (r : List Float) (d : ℕ) (m : Message) → length r ≡ width ds → d < length ds → length m ≡ long_at ds d → length (put r (offset_at ds d) m) ≡ width ds
length-put-at ds r d m e h k = length-put r (offset_at ds d) m (omega (arith, offset_room ds d h)) ∙ e

-- ---- all that a node holds

set_messages-sets : (f : ℕ) (vs l : List Message) → set_messages (range f (length vs)) vs l ≡ sets l f vs
unfolding set_messages
set_messages-sets f [] l = refl
set_messages-sets f (v ∷ vs) l = set_messages-sets (suc f) vs (set l f v)

sets-fits : (ds : List Direction) (f : ℕ) (vs l : List Message) → SetFits ds l → ((k : ℕ) → k < length vs → length (message_at k vs) ≡ long_at ds (f + k)) → SetFits ds (sets l f vs)
sets-fits ds f [] l F h = F
sets-fits ds f (v ∷ vs) l F h =
    sets-fits ds (suc f) vs (set l f v) (set-fits ds l f v F (h 0 (omega arith) ∙ ap (long_at ds) (add-zero f)))
    (λ k q. h (suc k) (omega arith) ∙ ap (long_at ds) (let z : f + suc k ≡ suc f + k = omega arith in z))

module _ (ds : List Direction) (a b : List Float) (x : MessageNode) (ea : length a ≡ width ds) (eb : length b ≡ width ds) (inside : x.first_incoming + length x.outgoing ≤ length ds) where
  abbrev vs : List Message
  vs = messages_in x (cut ds a)

  count : length vs ≡ length x.outgoing
  count = length-region (cut ds a) x.first_incoming (length x.outgoing) (omega (arith, length_cut ds a))

  copy_sets : copy_node (cut ds a) x (cut ds b) ≡ sets (cut ds b) x.first_incoming vs
  unfolding copy_node
  copy_sets = ap (λ (n : ℕ). set_messages (range x.first_incoming n) vs (cut ds b)) (sym count) ∙ set_messages-sets x.first_incoming vs (cut ds b)

  pub flat-copy_node : flat (copy_node (cut ds a) x (cut ds b)) ≡ put b (offset_at ds x.first_incoming) (row_in x ds a)
  unfolding put
  flat-copy_node =
      let f = x.first_incoming in
      let n = length x.outgoing in
      ap flat (copy_sets ∙ sets-eq vs (cut ds b) f (omega (arith, count, length_cut ds b)) ∙ append_assoc (take f (cut ds b)) vs (drop (f + length vs) (cut ds b)))
      ∙ flat_append (take f (cut ds b)) (vs ++ drop (f + length vs) (cut ds b))
      ∙ ap (λ (l : List Float). flat (take f (cut ds b)) ++ l) (flat_append vs (drop (f + length vs) (cut ds b)))
      ∙ ap (λ (l : List Float). l ++ (flat vs ++ flat (drop (f + length vs) (cut ds b)))) (flat-take ds b f eb (omega arith))
      ∙ ap (λ (l : List Float). take (offset_at ds f) b ++ (l ++ flat (drop (f + length vs) (cut ds b)))) (flat-messages_in x ds a inside ea)
      ∙ ap (λ (k : ℕ). take (offset_at ds f) b ++ (row_in x ds a ++ flat (drop (f + k) (cut ds b)))) count
      ∙ ap (λ (l : List Float). take (offset_at ds f) b ++ (row_in x ds a ++ l)) (flat-drop ds b (f + n) eb inside)
      ∙ ap (λ (k : ℕ). take (offset_at ds f) b ++ (row_in x ds a ++ drop k b)) (let z : offset_at ds (f + n) ≡ offset_at ds f + length (row_in x ds a) = omega (arith, span-end ds f n inside, length-row_in x ds a inside ea) in z)

  pub copy_node-cut : copy_node (cut ds a) x (cut ds b) ≡ cut ds (put b (offset_at ds x.first_incoming) (row_in x ds a))
  copy_node-cut =
      let f = x.first_incoming in
      copy_sets
      ∙ cut_of ds (sets (cut ds b) f vs) (put b (offset_at ds f) (row_in x ds a))
      (sets-fits ds f vs (cut ds b) (cut_fits ds b eb) (λ k q. ap length (message_messages_in x (cut ds a) k (omega (arith, count))) ∙ cut-long ds a (f + k) ea (omega (arith, count))))
      (ap flat (sym copy_sets) ∙ flat-copy_node)

  pub length-put_in : length (put b (offset_at ds x.first_incoming) (row_in x ds a)) ≡ width ds
  length-put_in =
      length-put b (offset_at ds x.first_incoming) (row_in x ds a) (omega (arith, length-row_in x ds a inside ea, span_room ds x.first_incoming (length x.outgoing) inside)) ∙ eb

-- ---- a message to each direction of a list

-- message m can stand at direction d
pub record Takes (ds : List Direction) (d : ℕ) (m : Message) : Type 0 where
  pub there : d < length ds
  pub long : length m ≡ long_at ds d

-- the row after the first i messages: message k at where direction number k of the list begins
abbrev pub sent : List Direction → List ℕ → List Message → List Float → ℕ → List Float
sent ds os ms r i = puts r (λ k. offset_at ds (get_or os k 0)) (λ k. message_at k ms) i

module _ (ds : List Direction) where
  pub length-sent : (os : List ℕ) (ms : List Message) (r : List Float) (i : ℕ) → length r ≡ width ds → ((k : ℕ) → k < i → Takes ds (get_or os k 0) (message_at k ms)) → length (sent ds os ms r i) ≡ width ds
  length-sent os ms r i e h =
      length-puts r (λ k. offset_at ds (get_or os k 0)) (λ k. message_at k ms) i
      (λ k q. let T : Takes ds (get_or os k 0) (message_at k ms) = h k q in omega (arith, T.long, offset_room ds (get_or os k 0) T.there))
      ∙ e

  pub set_messages-cut : (os : List ℕ) (ms : List Message) (r : List Float) → length r ≡ width ds → length ms ≡ length os → ((k : ℕ) → k < length os → Takes ds (get_or os k 0) (message_at k ms))
      → set_messages os ms (cut ds r) ≡ cut ds (sent ds os ms r (length os))
  unfolding set_messages puts
  set_messages-cut [] ms r e c h = refl
  set_messages-cut (o ∷ os) [] r e c h = absurd (let z : ⊥ = omega arith in z)
  set_messages-cut (o ∷ os) (m ∷ ms) r e c h =
      let T : Takes ds o m = h 0 (omega arith) in
      ap (set_messages os ms) (sym (cut-put ds r o m e T.there T.long))
      ∙ set_messages-cut os ms (put r (offset_at ds o) m) (length-put-at ds r o m e T.there T.long) (omega arith) (λ k q. h (suc k) (omega arith))
      ∙ ap (cut ds) (sym (puts_first r (λ k. offset_at ds (get_or (o ∷ os) k 0)) (λ k. message_at k (m ∷ ms)) (length os)))
