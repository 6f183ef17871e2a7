-- Demand 1: "A refusal has one number and one place, by a fixed order, and writes nothing". The order is that of the definitions (scope); here is what every refusal has in common.
use Rattle.std.specs.Prelude.{◌≡◌, Bool, List}
use Rattle.std.proofs.Math.Path.{refl, subst}
use Rattle.std.proofs.Math.Bool.{true, false}
use Prim.Native.Nat.{ℕ, ◌≤◌, zero-le}
use Rattle.codec.specs.Pick.{pick}
use Rattle.codec.specs.Field.{Contents, body}
use Rattle.codec.specs.Frame.{Outcome, accepted, refused, read_frame}
use Rattle.codec.specs.Meaning.{len_of}
use Rattle.codec.proofs.Laws.Within.{PlaceTo, within_body, frame_place}
use Rattle.papers.specs.Papers.{known, paper_of}
use Rattle.layout.specs.Answer.{Refused}
use Rattle.scope.specs.Reading.{field_of, no_record, shown, read_of}
use Rattle.layout.specs.Laws.Answer.{Accepted≢Refused}

-- a refused field has its place within LEN, and "a refused read gives a record of zeros"
module _ (cat : ℕ) (s : List ℕ) (n p : ℕ) (e : (read_of cat s).answer ≡ Refused n p) where
  pub place_within : p ≤ len_of s
  unfolding read_of shown field_of
  place_within = go (known cat) (read_frame (body (paper_of cat)) s) (frame_place (body (paper_of cat)) (within_body (paper_of cat)) s) e
    where
      go : (b : Bool) (o : Outcome Contents) → PlaceTo (len_of s) o → (shown cat s (pick b o (refused 1 0))).answer ≡ Refused n p → p ≤ len_of s
      go true (accepted r) h q = Accepted≢Refused q
      go true (refused m a) h q = let z : a ≡ p = cc in subst (◌≤ len_of s) z h
      go false o h q = let z : 0 ≡ p = cc in subst (◌≤ len_of s) z zero-le

  pub refused_zeros : (read_of cat s).kept ≡ no_record
  unfolding read_of shown
  refused_zeros = go (field_of cat s) e
    where
      go : (o : Outcome Contents) → (shown cat s o).answer ≡ Refused n p → (shown cat s o).kept ≡ no_record
      go (accepted r) q = Accepted≢Refused q
      go (refused m a) q = refl
