-- What was taken in of the input: the decoder and its two slices have been fed all of it, and nothing else.
use Rattle.std.specs.Prelude.{ℕ, zero, suc, ◌+◌, ◌^◌, ◌<◌, ◌≡◌, refl, true, List, [], ◌∷◌, ◌++◌, length}
use Rattle.std.proofs.Common.{arith, sym, ap, ◌∙◌, length-append}
use Rattle.std.proofs.Math.Option.{some}
use Rattle.definition.specs.BaleFile.{bad_word}
use Rattle.definition.specs.Refusals.{refused}
use Rattle.definition.specs.FileAnswer.{file_verdict}
use Rattle.bale_file.specs.declared.decoder.Decoder.{Decoder}
use Rattle.bale_file.specs.declared.reading.Reading.{Reading}
use Rattle.bale_file.specs.Reading.{read_word}
use Rattle.bale_file.specs.Decoder.{Fed, fed_of, started, fed_at, fed_byte, fed, end_of, finished}
use Rattle.bale_file.specs.Feeding.{fed-start, fed-more}
use Rattle.bale_file.specs.Decoded.{decoded_bad}
use Rattle.bale_answer.specs.declared.input.Input.{Input}
use Rattle.bale_answer.specs.Cases.{verdict_bad}

-- The bytes bs were fed to a decoder that began with slices of 24 and 140 words, whatever these held.
pub record Taken (bs : List ℕ) (d : Decoder) (ms ps : List ℕ) : Type 0 where
  pub few : length bs < 2 ^ 64
  pub markers_before : List ℕ
  pub pairs_before : List ℕ
  pub markers_before_length : length markers_before ≡ 24
  pub pairs_before_length : length pairs_before ≡ 140
  pub markers_now : length ms ≡ 24
  pub pairs_now : length ps ≡ 140
  pub is-fed : fed_of d ms ps ≡ fed bs (fed_of started markers_before pairs_before)

pub record SomeTaken (d : Decoder) (ms ps : List ℕ) : Type 0 where
  pub bytes : List ℕ
  pub taken : Taken bytes d ms ps

-- and they were counted
pub record TakenIn (bs : List ℕ) (i : Input) (ms ps : List ℕ) : Type 0 where
  pub counted : i.bytes ≡ length bs
  pub taken : Taken bs i.decoder ms ps

pub record SomeTakenIn (i : Input) (ms ps : List ℕ) : Type 0 where
  pub bytes : List ℕ
  pub taken : TakenIn bytes i ms ps

-- ---- piece by piece

pub taken_none : (i : Input) → i.decoder ≡ started → i.bytes ≡ 0 → (ms ps : List ℕ) → length ms ≡ 24 → length ps ≡ 140 → TakenIn [] i ms ps
taken_none i e z ms ps a b =
    record {
      counted = z;
      taken = record { few = omega arith; markers_before = ms; pairs_before = ps; markers_before_length = a; pairs_before_length = b; markers_now = a; pairs_now = b; is-fed = fed-start _ ms ps e };
    }

pub taken_more :
    (bs piece : List ℕ) (i j : Input) (ms ps ns qs : List ℕ) → TakenIn bs i ms ps → i.bytes + length piece < 2 ^ 64 →
    fed_of j.decoder ns qs ≡ fed piece (fed_of i.decoder ms ps) → length ns ≡ length ms → length qs ≡ length ps → j.bytes ≡ i.bytes + length piece → TakenIn (bs ++ piece) j ns qs
taken_more bs piece i j ms ps ns qs t h e m p c =
    let u = t.taken in
    let k = length-append bs piece in
    record {
      counted = omega (arith, c, t.counted, k);
      taken = record {
        few = omega (arith, t.counted, k);
        markers_before = u.markers_before;
        pairs_before = u.pairs_before;
        markers_before_length = u.markers_before_length;
        pairs_before_length = u.pairs_before_length;
        markers_now = m ∙ u.markers_now;
        pairs_now = p ∙ u.pairs_now;
        is-fed = fed-more bs piece _ _ _ u.is-fed e;
      };
    }

-- ---- number 9

pub taken_bad : (bs : List ℕ) (d : Decoder) (ms ps : List ℕ) → Taken bs d ms ps → finished d ≡ bad_word bs
taken_bad bs d ms ps t = ap (λ (f : Fed). finished f.decoder) t.is-fed ∙ decoded_bad bs t.markers_before t.pairs_before t.few

-- once a word is bad, no byte changes its place
byte_kept : (n x : ℕ) (f : Fed) → f.decoder.reading.bad ≡ true → (fed_at n x f).decoder.reading ≡ f.decoder.reading
unfolding fed_at read_word
byte_kept zero x f b = refl
byte_kept (suc zero) x f b = refl
byte_kept (suc (suc zero)) x f b = refl
byte_kept (suc (suc (suc n))) x f b = rw b

fed-kept : (rest : List ℕ) (f : Fed) → f.decoder.reading.bad ≡ true → (fed rest f).decoder.reading ≡ f.decoder.reading
unfolding fed fed_byte
fed-kept [] f b = refl
fed-kept (x ∷ rest) f b =
    let e = byte_kept f.decoder.filled x f b in
    fed-kept rest (fed_byte x f) (ap (λ (r : Reading). r.bad) e ∙ b) ∙ e

bad_end : (d : Decoder) → d.reading.bad ≡ true → finished d ≡ some d.reading.place
unfolding finished end_of
bad_end d b = rw b

pub decided :
    (d : Decoder) → d.reading.bad ≡ true → (bs ms ps rest : List ℕ) → Taken bs d ms ps → length (bs ++ rest) < 2 ^ 64 →
    file_verdict (bs ++ rest) ≡ refused 9 d.reading.place
decided d b bs ms ps rest t h =
    let f = fed rest (fed_of d ms ps) in
    let e : f.decoder.reading ≡ d.reading = fed-kept rest (fed_of d ms ps) b in
    let w = fed-more bs rest (fed_of started t.markers_before t.pairs_before) (fed_of d ms ps) f t.is-fed refl in
    verdict_bad (bs ++ rest) d.reading.place
    (sym (decoded_bad (bs ++ rest) t.markers_before t.pairs_before h)
    ∙ sym (ap (λ (g : Fed). finished g.decoder) w)
    ∙ bad_end f.decoder (ap (λ (r : Reading). r.bad) e ∙ b)
    ∙ ap (λ (r : Reading). some r.place) e)
