-- Ends of shared files may go to other threads.
use denote.Builtin
use denote.Struct.Declared as Declared
use denote.Param.Send.{IsSend, IsSync, sendable, struct_send, struct_sync, recorded_send, recorded_sync}
use Rattle.std.proofs.Crossing
use Rattle.std.proofs.Crossing.{crosses, Arc-send, Arc-sync, Vec-send}
use Rattle.logbook.proofs.tokens.Seen.TheSendSync as Seen
use Rattle.hgs_hub.specs.contracts.book.Entry as Entry
use Rattle.hgs_hub.specs.contracts.book.Listed as Listed
use Rattle.hgs_hub.specs.contracts.book.ListedRuleEntryU64.TheImpl as TheImpl
use Rattle.hgs_hub.specs.contracts.moment.Moment as Moment
use Rattle.hgs_hub.specs.contracts.moment.Origin as Origin
use Rattle.hgs_hub.specs.contracts.rule.Shown as Shown
use Rattle.hgs_hub.specs.contracts.rule.View as View
use Rattle.hgs_hub.specs.contracts.rule.Law as Law
use Rattle.hgs_hub.specs.contracts.rule.LawRuleShownView.TheImpl as Ruled
use Rattle.hgs_hub.specs.contracts.rule.ShownAbsorbArcMoment.TheImpl as Taken
use Rattle.std.specs.contracts.sync.Arc as Arc
use Rattle.hgs_hub.specs.contracts.told.Heard as Heard
use Rattle.hgs_hub.specs.contracts.reader.HubReader as HubReader
use Rattle.left_right.proofs.reader.Reader.TheSendSync as Reader
use Rattle.left_right.proofs.writer.Writer.TheSendSync as Writer
use Rattle.hgs_mem.proofs.contents.Map.TheSendSync as Map
use Rattle.hgs_mem.proofs.plan.Plan.TheSendSync as Plan
use Rattle.hgs_mem.proofs.tally.Tally.TheSendSync as Tally
use Rattle.hgs_mem.specs.contracts.logged.LoggedFiles as LoggedFiles
use Rattle.hgs_mem.specs.contracts.mem.MemFiles as MemFiles
use Rattle.hgs_files.proofs.op.Op.TheSendSync as Op
use Rattle.hgs_files.specs.declared.protocol.Protocol as Protocol
use Rattle.hgs_hub.proofs.front.Front.TheSendSync as Front
use Rattle.hgs_hub.proofs.book.Book.TheSendSync as Book
use Rattle.hgs_hub.specs.contracts.writer.HubWriter as HubWriter
use denote.RattleType.{RattleType}
use Rattle.std.specs.contracts.alloc.Global as Heap
use Rattle.std.specs.contracts.impls.GlobalAllocator.TheImpl as Allocator

pub origin-send : IsSend Origin.the_row
origin-send = recorded_send (Origin.the_field).row _ _ (Origin.the_type).to_one (struct_send (Declared.shape Origin.the_type) (search (sendable, crosses), (Seen.the_send Entry.the_row Builtin.u64 Listed.the_row TheImpl.ghosts, tt)))

pub origin-sync : IsSync Origin.the_row
origin-sync = recorded_sync (Origin.the_field).row _ _ (Origin.the_type).to_one (struct_sync (Declared.shape Origin.the_type) (search (sendable, crosses), (Seen.the_sync Entry.the_row Builtin.u64 Listed.the_row TheImpl.ghosts, tt)))

pub moment-send : IsSend Moment.the_row
moment-send = recorded_send (Moment.the_field).row _ _ (Moment.the_type).to_one (struct_send (Declared.shape Moment.the_type) (Map.the_field_send, (Arc-send Origin.the_row origin-send origin-sync, (search (sendable, crosses), (Seen.the_send Entry.the_row Builtin.u64 Listed.the_row TheImpl.ghosts, (search (sendable, crosses), tt))))))

pub moment-sync : IsSync Moment.the_row
moment-sync = recorded_sync (Moment.the_field).row _ _ (Moment.the_type).to_one (struct_sync (Declared.shape Moment.the_type) (Map.the_field_sync, (Arc-sync Origin.the_row origin-send origin-sync, (search (sendable, crosses), (Seen.the_sync Entry.the_row Builtin.u64 Listed.the_row TheImpl.ghosts, (search (sendable, crosses), tt))))))

pub shown-send : IsSend Shown.the_row
shown-send = recorded_send (Shown.the_field).row _ _ (Shown.the_type).to_one (struct_send (Declared.shape Shown.the_type) (Arc-send Moment.the_row moment-send moment-sync, tt))

pub shown-sync : IsSync Shown.the_row
shown-sync = recorded_sync (Shown.the_field).row _ _ (Shown.the_type).to_one (struct_sync (Declared.shape Shown.the_type) (Arc-sync Moment.the_row moment-send moment-sync, tt))

heard-send : IsSend (Heard.the_field).row
heard-send = struct_send (Declared.shape Heard.the_type) (search (sendable, crosses), tt)

pub reader-send : (P : RattleType) (g : Protocol.Ghosts P.Denot) → IsSend (HubReader.the_row P g)
reader-send P g = recorded_send (HubReader.the_field P g).row _ _ (HubReader.the_type P g).to_one (struct_send (Declared.shape (HubReader.the_type P g)) (Reader.the_field_send Shown.the_row View.the_row (Law.the_row P) Heap.the_row (Ruled.ghosts P g Ruled.no_dict) Allocator.ghosts Crossing.send shown-sync Crossing.sync (search (sendable, crosses)), (search (sendable, crosses), (Front.the_field_send, (heard-send, (Tally.the_field_send, tt))))))

logged-send : IsSend (LoggedFiles.the_field).row
logged-send = struct_send (Declared.shape LoggedFiles.the_type) (search (sendable, crosses), (Map.the_field_send, (search (sendable, crosses), (Vec-send _ Op.the_send, (search (sendable, crosses), tt)))))

files-send : IsSend (MemFiles.the_field).row
files-send = struct_send (Declared.shape MemFiles.the_type) (logged-send, (Plan.the_field_send, (Tally.the_field_send, tt)))

pub writer-send : (P T : RattleType) (g : Protocol.Ghosts P.Denot) → IsSend T → IsSend (HubWriter.the_row P T g)
writer-send P T g t = recorded_send (HubWriter.the_field P T g).row _ _ (HubWriter.the_type P T g).to_one (struct_send (Declared.shape (HubWriter.the_type P T g)) (search (sendable, t), (Writer.the_field_send Shown.the_row (Arc.the_row Moment.the_row Heap.the_row Allocator.ghosts) View.the_row (Law.the_row P) Heap.the_row Moment.the_row Taken.ghosts (Ruled.ghosts P g Ruled.no_dict) Allocator.ghosts shown-send (Arc-send Moment.the_row moment-send moment-sync) Crossing.send shown-sync Crossing.sync (search (sendable, crosses)), (Vec-send _ Op.the_send, (Book.the_field_send, (files-send, tt))))))
