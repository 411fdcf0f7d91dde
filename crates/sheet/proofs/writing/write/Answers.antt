use Rattle.std.proofs.Common.{◌≡◌, true, ◌++◌, length, ◌∙◌, refl, subst, arith, rules}
use Rattle.std.specs.List.{flat_map, AllByRecursion}
use Rattle.sheet.specs.Sheet.{sides, terms, are_listable, FitsLine}
use Rattle.sheet.proofs.SheetLaws.{writable, sheet-put}
use Rattle.sheet.proofs.writing.write.Goals as goal

pub returns : goal.returns
returns c =
    let ts = c.args.trades.now in
    let e : c.in_ok-listed.listed.trades.now ≡ ts = search rules in
    let l : are_listable ts ≡ true = subst (λ xs. are_listable xs ≡ true) e c.in_ok-listed.listed.listable in
    let f : AllByRecursion FitsLine ts = search rules in
    let r : c.write_rows.new.rows ≡ flat_map sides ts ++ flat_map terms ts = let w = c.write_rows.ensures in cc in
    record {
      fault = writable (length c.args.out.now) ts c.is_short.result c.is_short.ensures (search rules) l;
      written = (
        refl,
        (omega (arith, c.ranges.day.fits), l, f),
        sheet-put c.args.day ts c.args.out.now c.copy_from_slice.new.self c.copy_from_slice-2.new.self c.write_rows.new.rows
            (c.copy_from_slice.ensures.after ∙ c.to_le_bytes.ensures) (c.copy_from_slice-2.ensures.after ∙ c.to_le_bytes-2.ensures) r,
      );
    }
