-- What a writer is given to write: words, one after another, each by its kind.
use Rattle.std.specs.Prelude.{ℕ, List, [], ◌∷◌, map}
use Rattle.std.specs.List.{flat_map}
use Rattle.std.specs.Fmt.{decimal}
use Rattle.hex.specs.Hex.{encode_upper}
use Rattle.schedule_text.specs.declared.text.Part.{Part}
use Rattle.schedule_text.specs.declared.text.Part.TheVariants as part
use Rattle.schedule_text.specs.Entries.{byte_text, two_bytes_text, end_text, number_words}

-- the words of a part
abbrev pub part_words : Part → List (List ℕ)
part_words (part.Word word) = word.now ∷ []
part_words (part.End at) = end_text at ∷ []
part_words (part.Byte byte) = byte_text byte ∷ []
part_words (part.TwoBytes number) = two_bytes_text number ∷ []
part_words (part.Bytes bytes) = encode_upper bytes.now ∷ []
part_words (part.Number number) = decimal number ∷ []
part_words (part.Maybe number) = number_words number
part_words (part.Count count) = decimal count ∷ []
part_words (part.Numbers numbers) = map decimal numbers.now
part_words (part.EachByte bytes) = map byte_text bytes.now
part_words (part.EachThree threes) = map encode_upper threes.now

-- the words of parts
abbrev pub parts_words : List Part → List (List ℕ)
parts_words parts = flat_map part_words parts
