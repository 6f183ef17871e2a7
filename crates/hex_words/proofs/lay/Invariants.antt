use Rattle.std.proofs.Common.{◌≡◌, ◌+◌, ◌*◌, ◌≤◌, length}
use Rattle.std.proofs.lemmas.List.Edits.{sets}
use Rattle.hex_words.specs.Octets.{octets_of}
use Rattle.hex_words.proofs.lay.Given as goal

-- the pairs that are left go where they went from the start
abbrev pub invariant-loop-i : goal.invariant-loop-i
invariant-loop-i l = record {
  pairs : l.i-iterator.iter.size ≡ 2;
  few : 2 * l.i-iterator.count + length l.i-iterator.iter.rest.now ≤ 8192;
  laid : sets l.initial.out 0 (octets_of l.word) ≡ sets l.out l.i-iterator.count (octets_of l.i-iterator.iter.rest.now);
}
