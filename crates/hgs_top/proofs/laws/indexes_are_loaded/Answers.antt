use Rattle.hgs_top.proofs.laws.indexes_are_loaded.Goals as goal

pub returns : goal.returns
returns c = record {
  separate = c.either_form.ensures.separate;
  form = c.either_form.ensures.form;
  entries = c.either_form.ensures.entries;
  places = c.inline_index.ensures.places;
  rest = c.separate_indexes_are_asked.ensures.rest;
  pieces = c.files_are_read_whole.ensures.index;
  whole = c.files_are_read_whole.ensures.inline_index;
  long = c.files_are_read_whole.ensures.long_index;
}
