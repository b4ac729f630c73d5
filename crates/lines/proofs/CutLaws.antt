-- The laws of lines, together.
use Rattle.lines.specs.Laws.{CutLaws}
use Rattle.lines.proofs.Cuts.{rejoined, lines_unended, last_unended}
use Rattle.lines.proofs.FirstEnds.{first_end_lem}
use Rattle.lines.proofs.Holds.{held_grown}
use Rattle.lines.proofs.Parts.{lines_same, last_grown, lines_more, last_none}

pub laws : CutLaws
laws =
    record {
      rejoined = rejoined;
      lines_unended = lines_unended;
      last_unended = last_unended;
      lines_same = lines_same;
      last_grown = last_grown;
      lines_more = lines_more;
      last_none = last_none;
      held_grown = held_grown;
      first_end_lem = first_end_lem;
    }
