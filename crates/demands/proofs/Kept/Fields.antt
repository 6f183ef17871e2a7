-- The reader accepts exactly the fields, and refuses every other string by its fault. Demand 2, said of the octets: "A field is accepted exactly if it has the layout of the named EUROCONTROL edition". Having the layout is codec's Meaning over the paper as it is printed,
-- and the numbers of the record are what the printed bits stand for; nothing in it rests on how a field is read or written.
use Rattle.std.specs.Prelude.{◌≡◌, Bool, List, [], ◌∷◌, ◌++◌, ℕ, ◌-◌, ◌≤◌, pos, take}
use Rattle.std.proofs.Math.Path.{refl, sym, subst₂}
use Rattle.std.proofs.Common.{ap, ◌∙◌, subst, append-nil, arith}
use Rattle.std.proofs.Math.Bool.{true, false}
use Rattle.std.proofs.Math.Dec.{T}
use Rattle.std.proofs.Math.ListN.{length, replicate}
use Rattle.codec.specs.Pick.{pick}
use Rattle.codec.specs.Codec.{Octets}
use Rattle.codec.specs.Field.{flags, row, Contents, body}
use Rattle.codec.specs.Frame.{Outcome, accepted, refused, read_frame, okay_frame}
use Rattle.codec.specs.Meaning.{len_of, big_endian, bits_of, meant, Clear, Within, numbers_of, IsLine, IsChain, last, none, IsItem, is_compound, zeros_in, AreItems, end, item, no_item, HasLayout}
use Rattle.codec.specs.Printed.{spares}
use Rattle.codec.proofs.Laws.Tests.{and_l, holds}
use Rattle.codec.proofs.Laws.Field.{lawful_body, row_okay}
use Rattle.codec.proofs.Laws.Frame.{refused≢accepted, accepted_front, frame_octets}
use Rattle.codec.proofs.Laws.Meaning.{field_is, is_field}
use Rattle.codec.proofs.Laws.Faults.{field_faulty, faulty_field, fault_number}
use Rattle.papers.specs.Cat048.{MD5, M5N, M4E, RPC, ERR, printed048}
use Rattle.papers.specs.Notation.{bits, part}
use Rattle.papers.specs.Papers.{known, paper_of, printed_of, SLOTS, all_slots}
use Rattle.papers.proofs.Laws.Papers.{good_paper, made_paper, right_paper, few_printed}
use Rattle.layout.specs.declared.Record.{Record}
use Rattle.layout.specs.Answer.{Reading, Accepted}
use Rattle.layout.specs.Record.{all_parts, all_numbers, flatten}
use Rattle.layout.specs.Laws.Record.{length_parts, length_numbers, lawful_contents}
use Rattle.scope.specs.Reading.{field_of, read_of}
use Rattle.scope.specs.Writing.{writable, written}
use Rattle.scope.proofs.Laws.Reading.{read_found, kept_made, read_then_write, write_then_read}
use Rattle.demands.specs.Terms.{record_of, IsField, Fault, unknown, in_field, Judged, a_field, no_field}

abbrev pub Holds : ℕ → List ℕ → Contents → Type 0
Holds cat s r = HasLayout (printed_of cat) (take (len_of s) s) r

module _ (cat : ℕ) (s : List ℕ) (o : Octets s) where
  pub body_holds : (r : Contents) → read_frame (body (paper_of cat)) s ≡ accepted r → Holds cat s r
  body_holds r e =
      field_is (printed_of cat) (right_paper cat) (few_printed cat) s o r (subst (λ its. read_frame (body its) s ≡ accepted r) (sym (made_paper cat)) e)

  pub holds_body : (r : Contents) → Holds cat s r → read_frame (body (paper_of cat)) s ≡ accepted r
  holds_body r l =
      subst (λ its. read_frame (body its) s ≡ accepted r) (made_paper cat) (is_field (printed_of cat) (right_paper cat) (few_printed cat) s o r l)

  -- ---- what every operation on a field begins with: accepted exactly where the field has the layout

  pub field_holds : (r : Contents) → field_of cat s ≡ accepted r → T (known cat) × Holds cat s r
  unfolding field_of
  field_holds r e = go (known cat) refl e
    where
      go : (b : Bool) → known cat ≡ b → pick b (read_frame (body (paper_of cat)) s) (refused 1 0) ≡ accepted r → T (known cat) × Holds cat s r
      go true k h = (subst T (sym k) tt, body_holds r h)
      go false k h = refused≢accepted h

  pub holds_field : (r : Contents) → T (known cat) → Holds cat s r → field_of cat s ≡ accepted r
  unfolding field_of
  holds_field r k l = rw (holds (known cat) k) (holds_body r l)

  -- a field holds one thing
  pub holds_once : (r q : Contents) → Holds cat s r → Holds cat s q → r ≡ q
  holds_once r q a b = let e : accepted r ≡ accepted q = sym (holds_body r a) ∙ holds_body q b in cc

  -- ---- the same of the reader

  pub flatten_is : (r : Contents) → read_frame (body (paper_of cat)) s ≡ accepted r → flatten cat (paper_of cat) r ≡ record_of cat r
  unfolding flatten record_of okay_frame
  flatten_is r e =
      let w = accepted_front (lawful_body (paper_of cat) (good_paper cat)) s o r e in
      let k : T ((row (flags r.0) (paper_of cat)).okay r.1) = row_okay (paper_of cat) r (and_l ((body (paper_of cat)).okay r) _ w.okay) in
      let p : length (paper_of cat) ≡ length (all_parts r.1) = sym (length_parts (flags r.0) (paper_of cat) r.1 k) in
      let n : all_slots (paper_of cat) ≡ length (all_numbers r.1) = sym (length_numbers (flags r.0) (paper_of cat) r.1 k) in
      λ i. record { cat = cat; items = r.0; parts = all_parts r.1 ++ replicate (8 - p i) 0; numbers = all_numbers r.1 ++ replicate (SLOTS - n i) (pos 0) }

  pub accepted_is_field : (n : ℕ) → (read_of cat s).answer ≡ Accepted n → IsField cat s (read_of cat s).kept × (n ≡ len_of s)
  accepted_is_field n e =
      let r = read_found cat s n e in
      (record { what = r.what; known_is = subst T (sym r.known_is) tt; layout = body_holds r.what r.body_is; record_is = r.kept_is ∙ flatten_is r.what r.body_is }, r.len_is)

  pub is_field_accepted : (f : Record) → IsField cat s f → read_of cat s ≡ record { answer = Accepted (len_of s); kept = f }
  is_field_accepted f h =
      let e : read_frame (body (paper_of cat)) s ≡ accepted h.what = holds_body h.what h.layout in
      kept_made cat s h.what (holds (known cat) h.known_is) e
      ∙ ap (λ (g : Record). record { answer = Accepted (len_of s); kept = g }) (flatten_is h.what e ∙ sym h.record_is)

  -- ---- a string with a fault is refused by it, and every refusal is one

  pub fault_refused : {n q : ℕ} → Fault cat s n q → field_of cat s ≡ refused n q
  unfolding field_of
  fault_refused (unknown e) = rw e refl
  fault_refused (in_field {n} {q} k f) =
      rw (holds (known cat) k)
      (subst (λ its. read_frame (body its) s ≡ refused n q) (made_paper cat) (field_faulty (printed_of cat) (right_paper cat) (few_printed cat) f o))

  pub refused_fault : (n q : ℕ) → field_of cat s ≡ refused n q → Fault cat s n q
  unfolding field_of
  refused_fault n q e = go (known cat) refl e
    where
      go : (b : Bool) → known cat ≡ b → pick b (read_frame (body (paper_of cat)) s) (refused 1 0) ≡ refused n q → Fault cat s n q
      go true k h =
          in_field (subst T (sym k) tt)
          (faulty_field (printed_of cat) (right_paper cat) (few_printed cat) s o n q (subst (λ its. read_frame (body its) s ≡ refused n q) (sym (made_paper cat)) h))
      go false k h = let en : 1 ≡ n = cc in let eq : 0 ≡ q = cc in subst₂ (Fault cat s) en eq (unknown k)

  pub judged : Judged cat s
  judged = go (field_of cat s) refl
    where
      go : (x : Outcome Contents) → field_of cat s ≡ x → Judged cat s
      go (accepted r) e = let l = field_holds r e in a_field (record_of cat r) (record { what = r; known_is = l.0; layout = l.1; record_is = refl })
      go (refused n q) e = no_field n q (refused_fault n q e)

  -- ---- and of the writer: a record can be written exactly if it is the record of some field, and what is written is that field

  pub field_writable : (f : Record) → IsField cat s f → T (writable f) × (written f ≡ take (len_of s) s)
  field_writable f h =
      let e : read_of cat s ≡ record { answer = Accepted (len_of s); kept = f } = is_field_accepted f h in
      subst (λ (g : Record). T (writable g) × (written g ≡ take (len_of s) s)) (ap (λ (x : Reading). x.kept) e)
      (read_then_write cat s o (len_of s) (ap (λ (x : Reading). x.answer) e))

-- the numbers of refusal of a field are from 1 to 9
pub numbers : {cat : ℕ} {s : List ℕ} {n q : ℕ} → Fault cat s n q → (1 ≤ n) × (n ≤ 9)
numbers (unknown e) = (omega arith, omega arith)
numbers (in_field {n} {q} k f) = let t = fault_number f in let lo : 2 ≤ n = t.0 in (omega arith, t.1)

pub written_field : (f : Record) → T (known f.cat) → T (writable f) → IsField f.cat (written f) f
unfolding writable written
written_field f k w =
    let s : List ℕ = written f in
    let e : read_of f.cat s ≡ record { answer = Accepted (length s); kept = f }
    = subst (λ x. read_of f.cat x ≡ record { answer = Accepted (length s); kept = f }) (append-nil s) (write_then_read f k w []) in
    let o : Octets s = frame_octets (lawful_contents f.cat) f w in
    subst (λ (g : Record). IsField f.cat s g) (ap (λ (x : Reading). x.kept) e) (accepted_is_field f.cat s o (length s) (ap (λ (x : Reading). x.answer) e)).0

-- ---- how it is to be read: 03 20 06 of category 48 holds M4E in one part, bits 3/2 of which are 3

pub example : HasLayout printed048 (0x03 ∷ 0x20 ∷ 0x06 ∷ [])
    (0x20, (0, zeros_in MD5) ∷ (0, zeros_in M5N) ∷ (1, pos 3 ∷ []) ∷ (0, zeros_in RPC) ∷ (0, zeros_in ERR) ∷ [])
unfolding printed048 big_endian bits_of meant Clear Within numbers_of
example =
    let l : IsLine (part 1 (spares 8 4 ∷ bits 3 2 "FOE/FRI" ∷ [])) (0x06 ∷ []) (pos 3 ∷ []) = record { long = refl; clear = (refl, tt); within = (tt, tt); numbers = refl } in
    let c : IsChain (part 1 (spares 8 4 ∷ bits 3 2 "FOE/FRI" ∷ []) ∷ []) (0x06 ∷ []) 1 (pos 3 ∷ []) = last l refl in
    let m : IsItem M4E (0x06 ∷ []) 1 (pos 3 ∷ []) = is_compound {os = 0x06 ∷ []} {rest = []} {zs = pos 3 ∷ []} {ys = []} c none in
    let row : AreItems 0x20 8 printed048 (0x06 ∷ []) ((0, zeros_in MD5) ∷ (0, zeros_in M5N) ∷ (1, pos 3 ∷ []) ∷ (0, zeros_in RPC) ∷ (0, zeros_in ERR) ∷ [])
    = no_item refl (no_item refl (item {os = 0x06 ∷ []} {rest = []} refl m (no_item refl (no_item refl end)))) in
    record { rest = 0x06 ∷ []; octets = refl; spare = refl; items = row }
