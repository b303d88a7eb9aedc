use Rattle.std.proofs.Common.{length, sym, subst}
use Rattle.xw_words.specs.Dictionary.{known_words}
use Rattle.xw_net.specs.Inner.Blank.{IsBlank}
use Rattle.xw_net.specs.Copy.{IsReusable}
use Rattle.xw_net.specs.Net.{known_counts}
use Rattle.xw_net.specs.Room.{counts_of, HasRoom}
use Rattle.xw_net.proofs.Nets.CopiedNets.{blank_reusable, settled_reusable}
use Rattle.xw_net.proofs.net.Net.copy.Goals as goal

pub copy_from-requires : goal.copy_from-requires
copy_from-requires c =
    let net = c.in_ok-net.net in
    let words = c.args.bank.now.words in
    let grid = c.args.grid.now in
    let is_blank = subst (λ l. IsBlank l (counts_of (known_words c.args.bank.now.words)) (length c.args.grid.now.squares) c.in_ok-net.net) c.requires.lights c.in_ok-net.ensures.blank in
    let room = subst (λ l. HasRoom l (counts_of (known_words c.args.bank.now.words)) c.in_ok-net.net) c.requires.lights c.in_ok-net.ensures.room in
    record {
      counts = known_counts words;
      cells = length grid.squares;
      from = subst (λ l. IsReusable l (known_counts c.args.bank.now.words) (length c.args.grid.now.squares) c.args.self.now) (sym c.requires.lights)
          (settled_reusable record { grid = c.args.grid.now; words = c.args.bank.now.words } c.args.self.now c.requires.settled);
      to = subst (λ l. IsReusable l (known_counts c.args.bank.now.words) (length c.args.grid.now.squares) c.in_ok-net.net) (sym c.requires.lights)
          (blank_reusable grid c.well_formed-2.ensures words c.well_formed-3.ensures net is_blank room);
    }
