use Rattle.smt_values.proofs.BitSortLemmas.{binary_fits_by, folded_fits_by}
use Rattle.smt_values.proofs.SortLemmas.{result_of_sort}
use Rattle.smt_values.proofs.laws.results_are_of_their_sorts.Goals as goal

pub returns : goal.returns
returns c =
    let arithmetic = c.arithmetic_fits.ensures in
    let bitwise = c.bitwise_fits.ensures in
    let shifts = c.shifts_fit.ensures in
    let parts = c.parts_fit.ensures in
    let signed = c.signed_fits.ensures in
    result_of_sort record {
      not_fits = bitwise.not;
      negative_fits = arithmetic.neg;
      integer_fits = c.the_signed_reading_is_one_to_one.ensures.modulo;
      folded_fits = folded_fits_by bitwise.and bitwise.or bitwise.xor arithmetic.add arithmetic.mul;
      binary_fits = binary_fits_by record {
        nand = bitwise.nand;
        nor = bitwise.nor;
        xnor = bitwise.xnor;
        sub = arithmetic.sub;
        udiv = arithmetic.udiv;
        urem = arithmetic.urem;
        sdiv = signed.bvsdiv;
        srem = signed.bvsrem;
        smod = signed.bvsmod;
        shl = shifts.shl;
        lshr = shifts.lshr;
        ashr = shifts.ashr;
      };
      concat_fits = parts.concat;
      extract_fits = parts.extract;
      repeat_fits = parts.repeat;
      sign_extend_fits = parts.sign_extend;
      rotate_left_fits = parts.rotate_left;
      rotate_right_fits = parts.rotate_right;
      comp_fits = signed.bvcomp;
    } record {
      ratios = c.ratios_are_quotients.ensures.lowest;
      sums = c.sums_are_by_cross_products.ensures.number;
      differences = c.differences_are_by_cross_products.ensures.number;
      products = c.products_are_by_cross_products.ensures.number;
      quotients = c.quotients_undo_products.ensures.number;
      negatives = c.negatives_have_the_other_sign.ensures.number;
    }
