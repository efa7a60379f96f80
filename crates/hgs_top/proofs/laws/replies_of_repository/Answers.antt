use Rattle.hgs_top.proofs.RepositoryLemmas.{Laws, reply-is}
use Rattle.hgs_top.proofs.laws.replies_of_repository.Goals as goal

pub returns : goal.returns
returns c =
    let a = c.answers_of_repository.ensures in
    let laws : Laws = record { opens = a.opens; count = a.count; line = a.line; heads = a.heads; parents = a.parents; bookmarks = a.bookmarks; names = a.names; phase = a.phase; files = a.files; body = a.body; there = c.named_is_there.ensures; alike = c.views_tell_repositories.ensures.rest; changed = λ t r view s o rev d at. let i = c.contents_show_repository.ensures t r view rev d s.stands s.opens s.reads o at in (i.change, i.text, i.tells.extras); known = c.members_of_alike.ensures.known; lines = c.members_of_alike.ensures.text } in
    λ t r s question. reply-is laws t r s question
