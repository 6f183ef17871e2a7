-- Demand 2 of the defined program.
use Rattle.std.specs.Prelude.{◌≡◌, refl, List, ◌∷◌, ℕ, ◌+◌, ◌-◌, ◌≤◌, T, take}
use Rattle.std.proofs.Common.{sym, ◌∙◌, subst}
use Rattle.std.proofs.Math.Path.{ap, ap₂}
use Rattle.std.proofs.Math.Bool.{true}
use Rattle.std.proofs.Math.ListN.{length}
use borrow.Author.Tests.{le-leb}
use Rattle.codec.specs.Codec.{Octets}
use Rattle.codec.specs.Frame.{accepted}
use Rattle.codec.specs.Meaning.{len_of}
use Rattle.papers.specs.Papers.{known, paper_of, items_of}
use Rattle.layout.specs.declared.Record.{Record}
use Rattle.layout.specs.Answer.{Shown}
use Rattle.scope.specs.Outputs.{with_room, answer_of, after}
use Rattle.scope.specs.Writing.{writable, written, write_of}
use Rattle.scope.specs.Views.{is_item, standing, view_of, part_of, side_of, chosen_of}
use Rattle.scope.specs.Sheet.{sheet_of}
use Rattle.scope.proofs.Laws.Reading.{read_front}
use Rattle.scope.proofs.Laws.Views.{front_length, view_present, part_is_text, choice_correction, choice_base}
use Rattle.codec.proofs.Laws.Tests.{holds}
use Rattle.demands.proofs.Angles.{angle_nearest}
use Rattle.demands.specs.RoundTrips.{written_reads}
use Rattle.demands.specs.Terms.{record_of, IsField, numbered, bit_of}
use Rattle.demands.specs.Demands.{parts, Reads, Demand2}
use Rattle.demands.specs.Defined.{handed, program}
use Rattle.demands.specs.Edited.{room_enough}
use Rattle.demands.proofs.Kept.Fields.{accepted_is_field, is_field_accepted, field_writable}
use Rattle.demands.proofs.Kept.Refusals.{reading, items_are, absent_is, present_here}
use Rattle.demands.proofs.Kept.Parts.{field_parts, before_parts}
use Rattle.demands.proofs.Kept.Behind.{read_behind, view_behind, part_behind, choose_behind, edit_behind, sheet_behind}

module _ (cat : ℕ) (s : List ℕ) (o : Octets s) (f : Record) (h : IsField cat s f) where
  same_category : f.cat ≡ cat
  unfolding record_of
  same_category = ap (λ (g : Record). g.cat) h.record_is

  filled : length (take (len_of s) s) ≡ len_of s
  filled = front_length (paper_of cat) s h.what (read_front o (reading cat s o f h))

  -- with room the field's octets are written
  pub writes_field : (room : ℕ) → len_of s ≤ room → write_of f room ≡ accepted (take (len_of s) s)
  unfolding write_of with_room
  writes_field room r =
      let w = field_writable cat s o f h in
      let k : known f.cat ≡ true = ap known same_category ∙ holds (known cat) h.known_is in
      let l : length (written f) ≡ len_of s = ap length w.1 ∙ filled in
      rw (k, holds (writable f) w.0, le-leb (length (written f)) room (subst (◌≤ room) (sym l) r)) (ap accepted w.1)

  shown_is : (item : ℕ) → T (numbered cat item) → bit_of f.items item ≡ 1
      → view_of cat s item ≡ Shown (2 + length (parts program cat s 0 (item - 1))) (length (part_of s (view_of cat s item)))
  unfolding standing is_item
  shown_is item t e =
      view_present (reading cat s o f h) item t (present_here cat s o f h item t e)
      ∙ ap₂ (λ a x. Shown (2 + a) (length x)) (before_parts o (reading cat s o f h) item t) (sym (part_is_text (reading cat s o f h) item t o))

  pub reads : Reads program cat s f
  unfolding answer_of after chosen_of side_of is_item
  reads = record {
    accepted = is_field_accepted cat s o f h;
    filled = filled;
    written = λ out r. ap (λ x. handed x out) (writes_field (length out) r);
    parts_are = field_parts o (reading cat s o f h) ∙ ap (λ i. len_of s ∷ i ∷ parts program cat s 0 (items_of cat)) (sym (items_are cat s o f h));
    shown = shown_is;
    correction = λ {b} {g} ob j item t e.
        let c = choice_correction (reading cat b ob g j) (reading cat s o f h) item t (present_here cat s o f h item t e) in (c, ap (chosen_of b s) c);
    base = λ {b} {g} ob j item t x e.
        let c = choice_base (reading cat b ob g j) (reading cat s o f h) item t (absent_is cat s o f h item t x) (present_here cat b ob g j item t e) in (c, ap (chosen_of b s) c);
  }

pub demand2 : Demand2 program
unfolding answer_of after with_room
demand2 = record {
  fields = λ cat s f o. reads cat s o f;
  only_fields = λ cat s n o e. (accepted_is_field cat s o n e).0;
  read_back = λ f out n e. written_reads f out (record { answer = refl; output = refl }) e refl;
  listed = λ s out r. ap (λ o. handed o out) (room_enough {b = sheet_of s} r);
  angles = angle_nearest;
  reads_alike = read_behind;
  sheets_alike = sheet_behind;
  edits_alike = λ cat t x y w list item ch out. ap (λ a. handed a out) (edit_behind cat t x y w list item ch (length out));
  views_alike = λ cat t x y w o item. (view_behind cat t x y w item, part_behind cat t x y w o item);
  choices_alike = choose_behind;
}
