use Rattle.std.proofs.Common.{◌≡◌, ◌≤◌, ◌+◌, ◌*◌, ◌++◌, length, take}
use Rattle.std.specs.Iterator.Adapters.{take_source, take_count}
use Rattle.std.specs.Slice.Iter.{chunks_exact_rest, chunks_exact_size}
use Rattle.script.specs.Forms.{bytes_of}
use Rattle.script.proofs.hexadecimal.decode.Given as goal

abbrev pub invariant-loop-pair : goal.invariant-loop-pair
invariant-loop-pair l = record {
  pairs : chunks_exact_size (take_source l.pair-iterator) ≡ 2;
  room : length l.bytes.items + take_count l.pair-iterator ≤ 128;
  bytes : l.bytes.items ++ bytes_of (take (2 * take_count l.pair-iterator) (chunks_exact_rest (take_source l.pair-iterator))) ≡ bytes_of (take 256 l.digits);
}
