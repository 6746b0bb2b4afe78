-- The sizes of a run that the places of its words are found by.
use Rattle.grown_runs.specs.declared.word_places.WordPlaces.{WordPlaces}
use Rattle.grown_runs.specs.Table.WordPlaces.{Sizes}

-- its strips and its marks
abbrev pub sizes_in : WordPlaces → Sizes
sizes_in places = record { strips = places.strips; marks = places.marks }
