-- What a search of the held rows hands out: a row number as a type of its own. Assumes nothing.
use Rattle.std.specs.Prelude.{Option, option_map}
use Rattle.types.specs.declared.records.RowIndex.{RowIndex}
use Rattle.words.specs.Table.{Found}

abbrev pub row_found : Found → Option RowIndex
row_found f = option_map (λ row. record { 0 = row }) f
