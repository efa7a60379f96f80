use Rattle.std.proofs.Common.{sym, ap}
use Rattle.hgs_top.specs.Pages.{page_text}
use Rattle.hgs_top.proofs.pages.Page.text.Goals as goal

pub returns-in-Help : goal.returns-in-Help
returns-in-Help c = ap page_text (sym c.in-Help.is)
