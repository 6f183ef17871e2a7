-- What the proofs of the items and rows open: the tables of the papers, as far as they say which lines an item has, their octets, slots and bits.
unfoldable pub use Rattle.codec.specs.Radix.{total, cut}
unfoldable pub use Rattle.codec.specs.Line.{to_num, widths, count, nums}
unfoldable pub use Rattle.codec.specs.Item.{lines_of, slots_of, slots, item}
unfoldable pub use Rattle.codec.specs.Field.{first_flag, next_flags}
pub use Rattle.papers.specs.Papers.{SLOTS}
unfoldable pub use Rattle.papers.specs.Cat048.{cat048}
unfoldable pub use Rattle.papers.specs.Cat021.{cat021}
unfoldable pub use Rattle.papers.specs.Cat007.{cat007}
unfoldable pub use Rattle.lengths.specs.Lines.{items, placed_from, placed_in, placed, placed_at}
unfoldable pub use Rattle.shapes.specs.Shapes.{item_at, lines_from, parts_ok, flags_under, item_of}
unfoldable pub use Rattle.spots.specs.Spots.{spots_from, spots, spot_at}
unfoldable pub use Rattle.reader.specs.Steps.{line_run}
unfoldable pub use Rattle.reader.specs.Items.{item_run}
unfoldable pub use Rattle.reader.specs.Laws.Items.{more_from}
