use Rattle.hgs_shown.proofs.TextLemmas.{has-text, inline-text, named, separate-text}
use Rattle.hgs_shown.proofs.laws.texts_are_found.Goals as goal

pub returns : goal.returns
returns c = record {
  text = λ t index chunks revisions rev node text begin within lt at is. has-text c.laws_below.ensures revisions rev node text lt at is t index chunks begin within;
  apart = λ t index chunks revisions rev node text begin within lt at is. separate-text c.laws_below.ensures revisions rev node text lt at is t index chunks begin within;
  inline = λ index data_bytes revisions rev node text begin within lt at is. inline-text c.laws_below.ensures revisions rev node text lt at is index data_bytes begin within;
  not_null = named c.laws_below.ensures;
}
