-- The entries of a replayed list, and what is counted over them.
use Rattle.std.specs.Prelude.{ℕ, ◌+◌, ◌*◌, ◌≤◌, ◌<◌, ◌≡◌, refl, Bool, true, false, not, nat_eq, Option, None, Some, IfSome, Result, Ok, Err, List, [], ◌∷◌, ◌++◌, length, take}
use Rattle.std.proofs.Common.{arith, sym, ◌∙◌, subst}
use Rattle.std.specs.Str.{bytes_eq}
use Rattle.std.specs.Io.KnownBytes.{Consumes}
use Rattle.streams.specs.Input.{consumes-then}
use Rattle.definition.specs.Lists.{filter, cons_if, how_many}
use Rattle.definition.specs.Listing.{listing}
use Rattle.definition.specs.Shift.{shift_listing}
use Rattle.graph_laws.specs.OneComponent.{filter-length}
use Rattle.replay.specs.declared.Counts.{Counts}
use Rattle.replay.specs.declared.Head.{Head}
use Rattle.replay.specs.declared.Entry.{Entry}
use Rattle.replay.specs.declared.Broken.{Broken}

-- of a shift, or of a bale file
abbrev pub listing_as : Bool → List ℕ → List ℕ
listing_as true = shift_listing
listing_as false = listing

-- whether a file is a shift, the file, and the text behind it; or an entry in which the list breaks off
pub data ReplayEntry : Type 0 where
  whole : Bool → List ℕ → List ℕ → ReplayEntry
  broken : ReplayEntry

-- one that breaks off differs
abbrev pub differs : ReplayEntry → Bool
differs (whole shift file text) = not (bytes_eq (listing_as shift file) text)
differs broken = true

-- four bytes before n others: three are their number, the lowest first, and the one above them tells a shift
pub record HeadOf (n : ℕ) (shift : Bool) (bytes : List ℕ) : Type 0 where
  pub low : ℕ
  pub middle : ℕ
  pub high : ℕ
  pub kind : ℕ
  pub is : bytes ≡ low ∷ middle ∷ high ∷ kind ∷ []
  pub long : n ≡ low + 256 * middle + 65536 * high
  pub told : shift ≡ not (nat_eq kind 0)

-- bytes of a list: a head and the file, a head and the text
pub record WholeIn (shift : Bool) (file text bytes : List ℕ) : Type 0 where
  pub first : List ℕ
  pub behind : List ℕ
  pub kind : Bool
  pub of-file : HeadOf (length file) shift first
  pub of-text : HeadOf (length text) kind behind
  pub is : bytes ≡ ((first ++ file) ++ behind) ++ text

-- the bytes of an entry that breaks off may be any
abbrev pub EntryIn : ReplayEntry → List ℕ → Type 0
EntryIn (whole shift file text) bytes = WholeIn shift file text bytes
EntryIn broken bytes = Unit {0}

-- bytes are those of entries one after the other, of which the last comes first
abbrev pub EntriesIn : List ReplayEntry → List ℕ → Type 0
EntriesIn [] bytes = bytes ≡ []
EntriesIn (e ∷ es) bytes = (front : List ℕ) × (back : List ℕ) × (bytes ≡ front ++ back) × EntriesIn es front × EntryIn e back

-- a head was read, or what there was of one
pub record HeadTaken (before after : Option (List ℕ)) (head : Option Head) : Type 0 where
  pub bytes : List ℕ
  pub consumed : Consumes before after bytes
  pub is : IfSome head (λ h. HeadOf h.len h.shift bytes)

-- an entry was read to the front of two buffers, or what there was of one
abbrev pub EntryTaken : Option (List ℕ) → Option (List ℕ) → List ℕ → List ℕ → Result (Option Entry) Broken → Type 0
EntryTaken before after file text (Ok (Some e)) =
    (bytes : List ℕ) × Consumes before after bytes × WholeIn e.shift (take e.file_len file) (take e.text_len text) bytes
EntryTaken before after file text (Ok None) = (bytes : List ℕ) × Consumes before after bytes
EntryTaken before after file text (Err b) = (bytes : List ℕ) × Consumes before after bytes

-- an entry more, which differs or does not
abbrev pub one_more : Bool → Counts → Counts
one_more true c = record { files = c.files + 1; differ = c.differ + 1 }
one_more false c = record { files = c.files + 1; differ = c.differ }

-- The counts are those of a list of entries, the last one first. Of a reader whose bytes are known they are what it gave.
pub record Replayed (before after : Option (List ℕ)) (c : Counts) : Type 0 where
  pub entries : List ReplayEntry
  pub bytes : List ℕ
  pub coded : EntriesIn entries bytes
  pub consumed : Consumes before after bytes
  pub files : c.files ≡ length entries
  pub differ : c.differ ≡ how_many differs entries
  pub few : length entries ≤ 1000000

-- Behind them bytes that are no entry may have gone too.
pub record ReplayedAll (before after : Option (List ℕ)) (c : Counts) : Type 0 where
  pub now : Option (List ℕ)
  pub replayed : Replayed before now c
  pub rest : List ℕ
  pub consumed : Consumes now after rest

-- an entry was counted, or the list is over
pub record OneCounted (before after : Option (List ℕ)) (c d : Counts) : Type 0 where
  pub entry : ReplayEntry
  pub is : d ≡ one_more (differs entry) c
  pub bytes : List ℕ
  pub coded : EntryIn entry bytes
  pub consumed : Consumes before after bytes

abbrev pub Stepped : Option (List ℕ) → Option (List ℕ) → Counts → Option Counts → Type 0
Stepped before after c (Some d) = OneCounted before after c d
Stepped before after c None = (bytes : List ℕ) × Consumes before after bytes

-- there is room for what an entry says it has
abbrev pub Fits : Entry → Type 0
Fits e = (e.file_len ≤ 4096) × (e.text_len ≤ 4096)

-- ---- laws

pub differ_few : (a b : Option (List ℕ)) (c : Counts) → Replayed a b c → c.differ ≤ c.files
differ_few a b c r = omega (arith, r.files, r.differ, filter-length differs r.entries)

pub more_files : (b : Bool) (c : Counts) → (one_more b c).files ≡ c.files + 1
more_files true c = refl
more_files false c = refl

more_differ : (b : Bool) (c : Counts) (e : ReplayEntry) (es : List ReplayEntry) → c.differ ≡ how_many differs es → (one_more b c).differ ≡ length (cons_if b e (filter differs es))
more_differ true c e es h = omega (arith, h)
more_differ false c e es h = h

pub one_replayed : (x y z : Option (List ℕ)) (c d : Counts) → Replayed x y c → c.files < 1000000 → OneCounted y z c d → Replayed x z d
one_replayed x y z c d r h o =
    let b = differs o.entry in
    subst (Replayed x z) (sym o.is)
    (record {
      entries = o.entry ∷ r.entries;
      bytes = r.bytes ++ o.bytes;
      coded = (r.bytes, o.bytes, refl, r.coded, o.coded);
      consumed = consumes-then x y z r.bytes o.bytes r.consumed o.consumed;
      files = more_files b c ∙ omega (arith, r.files);
      differ = more_differ b c o.entry r.entries r.differ;
      few = omega (arith, r.files, h);
    })
