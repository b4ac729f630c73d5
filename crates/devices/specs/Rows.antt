-- What the rows of a register bank mean: a row is a byte with rights and a mask of its own.
use Rattle.std.specs.Prelude.{false, List}
use Rattle.bus.specs.Map.{AddressMap, Cell}
use Rattle.devices.specs.Contents.{list_map}
use Rattle.devices.specs.declared.row.Row.{Row}

abbrev pub row_cell : Row → Cell
row_cell r = record { readable = r.readable; writable = r.writable; value = r.value; mask = r.mask }

-- What stands past the last row.
abbrev pub no_row : Row
no_row = record { readable = false; writable = false; value = 0; mask = 0 }

abbrev pub rows_map : List Row → AddressMap
rows_map rows = list_map no_row row_cell rows
